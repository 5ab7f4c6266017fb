-- The bytes of a tag are plain.
use Rattle.std.proofs.Common.{sym}
use Rattle.std.specs.Prelude.{IsTrue}
use Rattle.std.specs.List.{list_all}
use Rattle.std.proofs.Math.Path.{subst}
use Rattle.farm_wire.specs.Plain.{is_plain}
use Rattle.farm_wire.proofs.PlainLemmas.{tag_is_plain}
use Rattle.farm_wire.proofs.shown.TagToJson.print.Goals as goal

pub put_word-requires : goal.put_word-requires
put_word-requires g c =
    subst (λ text. IsTrue (list_all is_plain text)) (sym c.as_str.ensures.text) (tag_is_plain c.args.self.now c.as_str.ensures.tag)
