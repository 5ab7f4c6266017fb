use Rattle.std.proofs.Common.{[], inl}
use Rattle.farm_store.specs.declared.meta.TheConstants.{READ}
use Rattle.farm_store.proofs.Names.{farm_columns, of_meta}
use Rattle.farm_store.proofs.LeftAlone.{all_shown, failed_left, reads_only}
use Rattle.farm_store.proofs.OnlyReads.{never_commits, shown}
use Rattle.farm_store.proofs.RowSelects.{asks_meta}
use Rattle.farm_store.proofs.meta.meta_rows.Goals as goal

pub returns-in_err-rows-clause-only : goal.returns-in_err-rows-clause-only
returns-in_err-rows-clause-only g c =
    let got = c.in_err-rows.ensures in
    reads_only _ _ _ got.survives (never_commits READ.now (asks_meta farm_columns).only_reads _) (got.mode c.requires.autocommit) (λ clean. failed_left READ.now [] _ _ _ (got.err clean))

pub returns-clause-only : goal.returns-clause-only
returns-clause-only g c =
    let got = c.in_ok-rows.ensures in
    reads_only _ _ _ got.survives (never_commits READ.now (asks_meta farm_columns).only_reads _) (got.mode c.requires.autocommit) (λ clean. inl (shown READ.now (asks_meta farm_columns).only_reads _ _ _ (got.ok clean)).1)

pub returns-clause-rows : goal.returns-clause-rows
returns-clause-rows g c clean columns T at =
    let got = c.in_ok-rows.ensures.ok clean in
    all_shown of_meta READ.now (asks_meta columns) _ T (at.shown (shown READ.now (asks_meta farm_columns).only_reads _ _ _ got).1.0.was_open) _ _ got

pub returns-clause-opened : goal.returns-clause-opened
returns-clause-opened g c clean = (shown READ.now (asks_meta farm_columns).only_reads _ _ _ (c.in_ok-rows.ensures.ok clean)).1.0.was_open

pub returns-clause-shown : goal.returns-clause-shown
returns-clause-shown g c clean = (shown READ.now (asks_meta farm_columns).only_reads _ _ _ (c.in_ok-rows.ensures.ok clean)).0
