-- Worked scripts of kept replies.
use Rattle.std.specs.Prelude.{◌≡◌, List, [], ◌∷◌, codes, refl}
use Rattle.std.specs.Str.{is_utf8, chars}
use Rattle.farm_types.specs.Names.{Denied, empty_farm, is_proper_cmd, is_tag, is_tags, is_word, Repeated, reply_of, run}
use Rattle.farm_types.specs.declared.calls.Call.{Call}
use Rattle.farm_types.specs.declared.rows.Check.{Check}
use Rattle.farm_types.specs.declared.calls.Cmd.{Cmd}
use Rattle.farm_worked.specs.Worked.{answers, did, by_admin, call_under, new_type, new_board, single, any_board}
use Rattle.farm_worked.specs.WorkedWhole.{all_kept, each_did, every_kind}

-- a refused command keeps no reply, and its key is free for another
unfoldable pub refused_under_a_key : List Call
unfolding is_proper_cmd is_word is_tag is_tags is_utf8 chars
refused_under_a_key =
    call_under (codes "ann") (codes "k1") 10 any_board refl
    ∷ call_under (codes "ann") (codes "k1") 10 (Cmd.Refresh 1) refl
    ∷ by_admin 10 (new_type Check.Never) refl
    ∷ by_admin 10 (new_board (codes "b1") []) refl
    ∷ call_under (codes "ann") (codes "k1") 20 (single 50) refl
    ∷ call_under (codes "ann") (codes "k1") 30 (single 100) refl
    ∷ call_under (codes "ann") (codes "k1") 30 any_board refl
    ∷ []

-- what each script answers and leaves
pub record KeptAsWorked : Type 0 where
  pub every_kind_answers : answers empty_farm every_kind ≡ each_did
  pub every_kind_kept : (run empty_farm every_kind).kept ≡ all_kept
  pub refused_under_a_key_answers : answers empty_farm refused_under_a_key ≡ Denied 22 ∷ Denied 30 ∷ did 0 ∷ did 0 ∷ did 1 ∷ Repeated (reply_of 1 0 0) ∷ Denied 40 ∷ []
  pub refused_under_a_key_kept : (run empty_farm refused_under_a_key).kept ≡ record { caller = codes "ann"; key = codes "k1"; kind = 5; reply = reply_of 1 0 0 } ∷ []
