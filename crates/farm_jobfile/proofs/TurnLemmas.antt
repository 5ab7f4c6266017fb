-- One more member of a table.
use Rattle.std.proofs.Common.{◌≡◌, ℕ, List, ◌++◌, ap, sym, ◌∙◌, refl, append_assoc, Ok, Err}
use Rattle.std.specs.Prelude.{Result}
use Rattle.toml.specs.Data.{Data, Members, member}
use Rattle.farm_types.specs.Names.{◌>>=◌}
use Rattle.farm_jobfile.specs.Reading.{Fault}
use Rattle.farm_jobfile.specs.Fields.{all_in}

pub one_turn : {A : Type 0} (read : List ℕ → Data → Result (List A) Fault) (name : List ℕ) (d : Data) (rest : Members) (here done : List A) (whole : Result (List A) Fault)
    → read name d ≡ Ok here → whole ≡ (all_in read (member name d rest) >>= λ more. Ok (done ++ more)) → whole ≡ (all_in read rest >>= λ more. Ok ((done ++ here) ++ more))
one_turn {A = A} read name d rest here done whole taken is =
    is ∙ (ap (λ r. (r >>= λ one. all_in read rest >>= λ more. Ok (one ++ more)) >>= λ more. Ok (done ++ more)) taken ∙ by (all_in read rest))
  where
    by : (r : Result (List A) Fault) → ((r >>= λ more. Ok (here ++ more)) >>= λ more. Ok (done ++ more)) ≡ (r >>= λ more. Ok ((done ++ here) ++ more))
    by (Ok more) = ap Ok (sym (append_assoc done here more))
    by (Err e) = refl
