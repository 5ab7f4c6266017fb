-- Computed.
use Rattle.std.proofs.Common.{refl}
use Rattle.std.specs.Fmt.{digits}
use Rattle.serde_json.proofs.OnLiterals.{serde_json_on_literals}
use Rattle.farm_wire.specs.Replies.{reply_bytes}
use Rattle.farm_wire.proofs.answers.no_memory_answer.Goals as goal

pub returns : goal.returns
unfolding reply_bytes digits serde_json_on_literals
returns c = refl
