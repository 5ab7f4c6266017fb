-- Texts between quotes, and members behind one another.
use Rattle.std.proofs.Common.{◌≡◌, ℕ, ◌+◌, ◌<◌, Bool, true, false, List, [], ◌∷◌, ◌++◌, length, get_or, take, refl, sym, ap, drop, map, append_assoc, ◌∙◌, ◌&&◌}
use Rattle.std.proofs.Common.{◌==◌, nat_le, not}
use Rattle.std.proofs.lemmas.List.{flat_map_more, take_more, drop_more}
use Rattle.std.proofs.lemmas.Bool.{and_parts, eqb-false, not-true, leb-true}
use Rattle.std.specs.List.{list_all}
use Rattle.std.specs.Prelude.{IsTrue}
use Rattle.std.proofs.lemmas.List.Elements.{All-get_or}
use Rattle.std.proofs.lemmas.List.Sums.{AllPass-from_list_all}
use Rattle.json.specs.Print.{escape_byte, escape, quoted}
use Rattle.json.proofs.Printed.Strings.{escape_byte_plain}
use Rattle.farm_wire.specs.Plain.{is_plain}
use Rattle.std.specs.Borrow.{Bor}
use Rattle.std.proofs.lemmas.Grind.{flat_map-append}
use Rattle.serde_json.specs.Written.{compact_text, comma_if, members_text}
use Rattle.farm_wire.specs.Parts.{part_data, member_of, has_plain_key}
use Rattle.farm_wire.specs.Shown.{object_members}
use Rattle.farm_wire.specs.declared.shown.JsonValue.{JsonValue}

pub escape_more : (xs : List ℕ) (i : ℕ) → i < length xs → escape (take i xs) ++ escape_byte (get_or xs i 0) ≡ escape (take (i + 1) xs)
escape_more xs i within = flat_map_more escape_byte [] (take i xs) (get_or xs i 0) ∙ ap escape (sym (take_more xs i 0 within))

plain_byte : (x : ℕ) → is_plain x ≡ true → escape_byte x ≡ x ∷ []
plain_byte x e =
    let both = and_parts (nat_le 32 x && not (x == 34)) (not (x == 92)) e in
    let first = and_parts (nat_le 32 x) (not (x == 34)) both.0 in
    escape_byte_plain x (eqb-false x 34 (not-true (x == 34) first.1)) (eqb-false x 92 (not-true (x == 92) both.1)) (leb-true 32 x first.0)

pub escape_plain : (xs : List ℕ) → list_all is_plain xs ≡ true → escape xs ≡ xs
escape_plain [] e = refl
escape_plain (x ∷ xs) e =
    let both = and_parts (is_plain x) (list_all is_plain xs) e in
    λ i. plain_byte x both.0 i ++ escape_plain xs both.1 i

-- a word and a number behind it
pub quoted_both : (word number : List ℕ) → 34 ∷ (escape word ++ (escape number ++ 34 ∷ [])) ≡ quoted (word ++ number)
quoted_both word number = ap (λ l. 34 ∷ l) (sym (append_assoc (escape word) (escape number) (34 ∷ [])) ∙ ap (λ l. l ++ 34 ∷ []) (sym (flat_map-append escape_byte word number)))

-- a comma, a member, and the members that are left
pub members_next : (later : Bool) (ms : List (Bor (List ℕ) × JsonValue)) (i : ℕ) (m : Bor (List ℕ) × JsonValue) → i < length ms → m ≡ get_or ms i m
    → comma_if later ++ (quoted m.0.now ++ 58 ∷ (compact_text (part_data m.1) ++ members_text true (object_members (map member_of (drop (i + 1) ms)))))
    ≡ members_text later (object_members (map member_of (drop i ms)))
members_next later ms i m within is =
    let rest = drop (i + 1) ms in
    let next : drop i ms ≡ m ∷ rest = drop_more ms i m within ∙ ap (λ x. x ∷ rest) (sym is) in
    ap (λ xs. members_text later (object_members (map member_of xs))) (sym next)

-- where all keys show as they are, each does
pub plain_at : (ms : List (Bor (List ℕ) × JsonValue)) (i : ℕ) (m : Bor (List ℕ) × JsonValue) → i < length ms → m ≡ get_or ms i m → IsTrue (list_all has_plain_key ms)
    → IsTrue (has_plain_key m)
plain_at ms i m within is all =
    ap has_plain_key is ∙ All-get_or (λ x. has_plain_key x ≡ true) ms i m within (AllPass-from_list_all has_plain_key ms all)
