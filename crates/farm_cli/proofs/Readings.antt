-- What the readers of matches give, as the definitions say it.
use Rattle.std.proofs.Common.{ℕ, Bool, true, false, cond, List, Option, Some, None, Result, Ok, Err, codes, option_and_then, unwrap_or, ◌≡◌, ◌∙◌, ap, refl, sym}
use Rattle.std.proofs.Common.{arith}
use Rattle.std.specs.Option.{option_map_or}
use Rattle.std.specs.Str.{bytes_eq}
use Rattle.std.specs.Str.Parse.{ParsesBool, ParsesUnsigned, digits_value, without_leading_plus}
use Rattle.std.proofs.lemmas.Slice.Eq.{bytes_eq-Decides}
use Rattle.clap.specs.Matches.{ReadsOne}
use Rattle.clap.specs.ValueTests.{is_unsigned_in}
use Rattle.clap.specs.declared.builder.value_parser.ValueParser.TheVariants.{Unsigned}
use Rattle.clap.proofs.ValueTestLemmas.{accepts-Accepts, Accepts-accepts}
use Rattle.farm_cli.specs.Orders.{u64_in}

-- a text that is read as a `u64`
u64_read : {E : Type 0} (G : List ℕ → Result ℕ E → Type 0) (t : List ℕ) (r : Option ℕ) → ((x : Result ℕ E) → G t x → ParsesUnsigned 64 10 t x)
    → ReadsOne G t r → r ≡ u64_in t
u64_read G t (Some v) only h =
    let p = only (Ok v) h in
    let accepted : is_unsigned_in 0 18446744073709551615 t ≡ true =
    Accepts-accepts false (Unsigned 0 18446744073709551615) t (p.0.0, p.0.1, omega arith, omega arith) in
    ap Some p.1 ∙ sym (ap (λ (b : Bool). cond b (Some (digits_value 10 (without_leading_plus t))) None) accepted)
u64_read G t None only h = go (is_unsigned_in 0 18446744073709551615 t) refl
  where
    go : (b : Bool) → is_unsigned_in 0 18446744073709551615 t ≡ b → None ≡ u64_in t
    go true e =
        let a = accepts-Accepts false (Unsigned 0 18446744073709551615) t e in
        absurd (only (Err h.0) h.1 (a.0, a.1))
    go false e = sym (ap (λ (b : Bool). cond b (Some (digits_value 10 (without_leading_plus t))) None) e)

-- and an argument that is
pub number_read : {E : Type 0} (G : List ℕ → Result ℕ E → Type 0) (o : Option (List ℕ)) (r : Option ℕ)
    → ((t : List ℕ) (x : Result ℕ E) → G t x → ParsesUnsigned 64 10 t x)
    → (o ≡ None → r ≡ None) → ((t : List ℕ) → o ≡ Some t → ReadsOne G t r) → r ≡ option_and_then u64_in o
number_read G None r only none value = none refl
number_read G (Some t) r only none value = u64_read G t r (only t) (value t refl)

-- a text that is read as a `bool`
bool_read : (E : Type 0) (t : List ℕ) (r : Option Bool) → ReadsOne {E = E} ParsesBool t r → unwrap_or r false ≡ bytes_eq t (codes "true")
bool_read E t (Some true) h = rw h refl
bool_read E t (Some false) h = rw h refl
bool_read E t None h = go (bytes_eq t (codes "true")) refl
  where
    go : (b : Bool) → bytes_eq t (codes "true") ≡ b → false ≡ bytes_eq t (codes "true")
    go true e = absurd (h.1.0 ((bytes_eq-Decides t (codes "true")).0 e))
    go false e = sym e

-- and a flag that is
pub flag_read : (E : Type 0) (o : Option (List ℕ)) (r : Option Bool) → (o ≡ None → r ≡ None)
    → ((t : List ℕ) → o ≡ Some t → ReadsOne {E = E} ParsesBool t r)
    → unwrap_or r false ≡ option_map_or (λ t. bytes_eq t (codes "true")) o false
flag_read E None r none value = ap (λ q. unwrap_or q false) (none refl)
flag_read E (Some t) r none value = bool_read E t r (value t refl)
