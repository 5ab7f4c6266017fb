use Rattle.std.proofs.Common.{sym, subst}
use Rattle.farm_sound.proofs.Names.{option_map_or}
use Rattle.farm_types.specs.Names.{cancel_group, done_with, finish_one, IsSound, start_group}
use Rattle.farm_sound.proofs.Jobs.{IsSound-cancel, IsSound-finish, IsSound-start}
use Rattle.farm_sound.proofs.laws.jobs_are_sound.Goals as goal

pub returns-clause-cancel : goal.returns-clause-cancel
returns-clause-cancel c = λ F caller n j there sound. subst
    (λ o. IsSound (option_map_or (λ j. done_with j.group (cancel_group j.group F)) o (done_with 0 F)).farm) (sym there) (IsSound-cancel F j.group sound)

pub returns-clause-start : goal.returns-clause-start
returns-clause-start c = λ F caller n j there ready sound. subst
    (λ o. IsSound (option_map_or (λ j. done_with j.group (start_group j.group F)) o (done_with 0 F)).farm) (sym there) (IsSound-start F n j there ready sound)

pub returns-clause-finish : goal.returns-clause-finish
returns-clause-finish c = λ F caller n j outcome there started going sound. subst
    (λ o. IsSound (option_map_or (λ j. done_with n (finish_one F.clock outcome F j)) o (done_with 0 F)).farm) (sym there)
    (IsSound-finish F n j outcome there started going sound)
