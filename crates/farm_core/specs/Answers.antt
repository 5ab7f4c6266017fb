-- What an answer of the program shows.
use Rattle.std.specs.Prelude.{◌≡◌, ⊤}
use Rattle.farm_types.specs.Names.{Answered, AreSmall, Changed, Denied, Farm, put_rows, Repeated}
use Rattle.farm_types.specs.declared.calls.Answer.{Answer}
use Rattle.farm_core.specs.Shown.{Shown}

-- the answer without the changed rows
abbrev pub answer_of : Answer → Answered
answer_of (Answer.Did reply changes) = Changed reply
answer_of (Answer.Kept reply) = Repeated reply
answer_of (Answer.Refused refusal) = Denied refusal.code

-- the changed rows lead from one farm to the other
abbrev pub ChangesLead : Answer → Farm → Farm → Type 0
ChangesLead (Answer.Did reply changes) F G = put_rows F changes ≡ G
ChangesLead (Answer.Kept reply) F G = ⊤
ChangesLead (Answer.Refused refusal) F G = ⊤

-- and their numbers are small
abbrev pub AreSmallChanges : Answer → Type 0
AreSmallChanges (Answer.Did reply changes) = AreSmall changes
AreSmallChanges (Answer.Kept reply) = ⊤
AreSmallChanges (Answer.Refused refusal) = ⊤

-- an answer that is no change's leaves what was there
abbrev pub Rests : Answer → Shown → Shown → Type 0
Rests (Answer.Did reply changes) old new = ⊤
Rests (Answer.Kept reply) old new = new ≡ old
Rests (Answer.Refused refusal) old new = new ≡ old

-- the answer is a change's
abbrev pub IsChange : Answered → Type 0
IsChange (Changed reply) = ⊤
IsChange (Repeated reply) = Unit {0} → ⊥
IsChange (Denied code) = Unit {0} → ⊥
