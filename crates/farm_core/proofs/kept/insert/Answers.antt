use Rattle.std.proofs.Common.{◌≡◌, ◌∙◌, map, ap, sym, subst}
use Rattle.farm_core.proofs.Names.{KeptRow, string_bytes}
use Rattle.farm_types.specs.Names.{kept_cmp, put}
use Rattle.farm_core.specs.Replies.{AreJoined, IsJoined, joined_caller, joined, joined_key, kept_row}
use Rattle.farm_core.proofs.Replies.Joined.{All-insert_entry, caller_joined, is_joined, key_joined, name_bytes, rows_insert}
use Rattle.farm_core.proofs.kept.insert.Goals as goal

pub returns-clause-rows : goal.returns-clause-rows
returns-clause-rows c =
    let row : KeptRow = c.args.row.now in
    let all = name_bytes row.caller c.joined.ensures.name in
    let text : string_bytes c.in_ok-text.text ≡ joined row.caller row.key = c.in_ok-text.ensures.ok ∙ c.as_str.ensures.value ∙ c.joined.ensures.joined in
    let here : IsJoined (string_bytes c.in_ok-text.text) = subst IsJoined (sym text) (is_joined row.caller row.key c.joined.ensures.name) in
    ap (map kept_row) c.in_ok-_former.ensures.entries ∙ rows_insert c.in_ok-text.text (record { kind = row.kind; reply = row.reply }) c.args.rows.now.entries here c.requires
    ∙ (λ i. put kept_cmp (map kept_row c.args.rows.now.entries) (record {
      caller = (ap joined_caller text ∙ caller_joined row.caller row.key all) i;
      key = (ap joined_key text ∙ key_joined row.caller row.key all) i;
      kind = row.kind;
      reply = row.reply;
    }))

pub returns-clause-joined : goal.returns-clause-joined
returns-clause-joined c =
    let row : KeptRow = c.args.row.now in
    let text : string_bytes c.in_ok-text.text ≡ joined row.caller row.key = c.in_ok-text.ensures.ok ∙ c.as_str.ensures.value ∙ c.joined.ensures.joined in
    let here : IsJoined (string_bytes c.in_ok-text.text) = subst IsJoined (sym text) (is_joined row.caller row.key c.joined.ensures.name) in
    subst AreJoined (sym c.in_ok-_former.ensures.entries)
    (All-insert_entry (λ k. IsJoined (string_bytes k)) c.in_ok-text.text (record { kind = row.kind; reply = row.reply }) c.args.rows.now.entries here c.requires)
