-- Which commands are proper at a limit of words and numbers, and which aren't: no row comes of those.
use Rattle.std.specs.Prelude.{◌≡◌, ◌++◌, ℕ, List, [], ◌∷◌, map, Some, None, codes, true, false}
use Rattle.std.specs.List.{range_with_len}
use Rattle.farm_types.specs.Names.{is_proper, is_proper_cmd}
use Rattle.farm_types.specs.declared.rows.Check.{Check}
use Rattle.farm_types.specs.declared.calls.Cmd.{Cmd}
use Rattle.farm_types.specs.declared.rows.Outcome.{Outcome}
use Rattle.farm_worked.specs.Worked.{new_type, a_board, single}

-- sixteen bytes, and with them a name, a key and a tag of the greatest length
abbrev pub sixteen : List ℕ
sixteen = codes "0123456789abcdef"

abbrev pub longest_name : List ℕ
longest_name = sixteen ++ sixteen ++ sixteen

abbrev pub longest_key : List ℕ
longest_key = longest_name ++ sixteen

abbrev pub longest_tag : List ℕ
longest_tag = sixteen ++ sixteen ++ codes "=" ++ longest_key

-- sixteen tags of one byte each, in order
abbrev pub sixteen_tags : List (List ℕ)
sixteen_tags =
    codes "a" ∷ codes "b" ∷ codes "c" ∷ codes "d" ∷ codes "e" ∷ codes "f" ∷ codes "g" ∷ codes "h" ∷ codes "i" ∷ codes "j" ∷ codes "k" ∷ codes "l"
    ∷ codes "m" ∷ codes "n" ∷ codes "o" ∷ codes "p" ∷ []

abbrev pub board_with : List (List ℕ) → Cmd
board_with tags = Cmd.AddBoard (codes "b1") (codes "bbb") tags

abbrev pub with_text : List ℕ → Cmd
with_text body = Cmd.Submit 50 (a_board [] ∷ []) (None ∷ []) body

pub record WordsAsWorked : Type 0 where
  -- types: a name, and a frequency of 1 to 10,000
  pub least_frequency : is_proper_cmd (new_type (Check.Hours 1)) ≡ true
  pub most_hours : is_proper_cmd (new_type (Check.Hours 10000)) ≡ true
  pub most_jobs : is_proper_cmd (new_type (Check.Jobs 10000)) ≡ true
  pub no_hours : is_proper_cmd (new_type (Check.Hours 0)) ≡ false
  pub no_jobs : is_proper_cmd (new_type (Check.Jobs 0)) ≡ false
  pub too_many_hours : is_proper_cmd (new_type (Check.Hours 10001)) ≡ false
  pub too_many_jobs : is_proper_cmd (new_type (Check.Jobs 10001)) ≡ false
  pub a_long_name : is_proper_cmd (Cmd.AddType longest_name Check.Never) ≡ true
  pub a_longer_name : is_proper_cmd (Cmd.AddType (longest_name ++ codes "0") Check.Never) ≡ false
  pub no_name : is_proper_cmd (Cmd.AddType [] Check.Never) ≡ false
  pub a_space : is_proper_cmd (Cmd.AddType (codes "b b") Check.Never) ≡ false
  -- boards: up to sixteen tags in byte order, none twice, none with the key `name`
  pub the_most_tags : is_proper_cmd (board_with sixteen_tags) ≡ true
  pub too_many_tags : is_proper_cmd (board_with (sixteen_tags ++ codes "q" ∷ [])) ≡ false
  pub tags_out_of_order : is_proper_cmd (board_with (codes "usb" ∷ codes "hdmi" ∷ [])) ≡ false
  pub a_tag_twice : is_proper_cmd (board_with (codes "hdmi" ∷ codes "hdmi" ∷ [])) ≡ false
  pub a_long_tag : is_proper_cmd (board_with (longest_tag ∷ [])) ≡ true
  pub a_longer_value : is_proper_cmd (board_with ((longest_tag ++ codes "0") ∷ [])) ≡ false
  pub a_longer_key : is_proper_cmd (board_with ((codes "0" ++ longest_tag) ∷ [])) ≡ false
  pub a_name_tag : is_proper_cmd (board_with (codes "name=b1" ∷ [])) ≡ false
  pub the_bare_name_tag : is_proper_cmd (Cmd.SetTags (codes "b1") (codes "name" ∷ [])) ≡ false
  pub a_name_tag_in_a_want : is_proper_cmd (Cmd.Reserve 50 (codes "name=b1" ∷ [])) ≡ true
  -- jobs and reservations: a priority of 0 to 100, one to four wants with a type each, a role or none for each, a text in UTF-8
  pub the_lowest_priority : is_proper_cmd (single 0) ≡ true
  pub the_highest_priority : is_proper_cmd (single 100) ≡ true
  pub a_higher_priority : is_proper_cmd (single 101) ≡ false
  pub a_reservation_too_high : is_proper_cmd (Cmd.Reserve 101 []) ≡ false
  pub no_wants : is_proper_cmd (Cmd.Submit 50 [] [] []) ≡ false
  pub four_wants : is_proper_cmd (Cmd.Submit 50 (a_board [] ∷ a_board [] ∷ a_board [] ∷ a_board [] ∷ []) (None ∷ None ∷ None ∷ None ∷ []) []) ≡ true
  pub five_wants : is_proper_cmd (Cmd.Submit 50 (a_board [] ∷ a_board [] ∷ a_board [] ∷ a_board [] ∷ a_board [] ∷ []) (None ∷ None ∷ None ∷ None ∷ None ∷ []) []) ≡ false
  pub a_want_without_a_type : is_proper_cmd (Cmd.Submit 50 (record { kind = None; tags = [] } ∷ []) (None ∷ []) []) ≡ false
  pub a_role_too_few : is_proper_cmd (Cmd.Submit 50 (a_board [] ∷ a_board [] ∷ []) (None ∷ []) []) ≡ false
  pub a_role_with_a_space : is_proper_cmd (Cmd.Submit 50 (a_board [] ∷ []) (Some (codes "a b") ∷ []) []) ≡ false
  pub a_text : is_proper_cmd (with_text (codes "job_name = 'a'")) ≡ true
  pub a_long_text : is_proper_cmd (with_text (map (λ n. 97) (range_with_len 0 65536))) ≡ true
  pub a_longer_text : is_proper_cmd (with_text (map (λ n. 97) (range_with_len 0 65537))) ≡ false
  pub no_utf8 : is_proper_cmd (with_text (255 ∷ [])) ≡ false
  pub canceled_by_name : is_proper_cmd (Cmd.Finish 1 Outcome.Canceled) ≡ false
  pub by_the_lab : is_proper_cmd (Cmd.Finish 1 Outcome.Infra) ≡ true
  -- callers and keys
  pub a_long_key : is_proper (codes "ann") (Some longest_key) Cmd.Pass ≡ true
  pub a_key_too_long : is_proper (codes "ann") (Some (longest_key ++ codes "0")) Cmd.Pass ≡ false
  pub no_caller : is_proper [] None Cmd.Pass ≡ false
