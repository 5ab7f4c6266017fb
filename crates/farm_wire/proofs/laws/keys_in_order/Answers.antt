-- The keys are literals.
use Rattle.std.proofs.Common.{Bool, true, false, refl}
use Rattle.std.specs.Prelude.{if◌then◌else◌, ◌==◌}
use Rattle.serde_json.specs.Data.{Data}
use Rattle.farm_wire.specs.Keys.{KeysRise}
use Rattle.farm_wire.proofs.laws.keys_in_order.Goals as goal

either : (first : Bool) (a b : Data) → KeysRise a → KeysRise b → KeysRise (if first then a else b)
either true a b left right = left
either false a b left right = right

pub returns : goal.returns
returns c = record {
  reply = λ kind reply. either (kind == 14) _ _ refl refl;
  refusal = λ code. refl;
  types = λ row. refl;
  boards = λ row. refl;
  queue = λ claim. refl;
  reservations = λ row. refl;
  job = λ row. refl;
  status = λ status. refl;
}
