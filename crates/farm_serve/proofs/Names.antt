-- The names that the proofs share: stores, keepers, requests and answers.
pub use Rattle.farm_core.specs.Answers.{IsChange}
pub use Rattle.farm_keep.proofs.LifeLemmas.{gives_farm}
pub use Rattle.farm_keep.specs.KeeperState.{KeeperState, KeepsEither, KeepsFarm, KeepsOwnFarm}
pub use Rattle.farm_keep.specs.declared.fault.KeepFault.{KeepFault}
pub use Rattle.farm_serve.specs.declared.fault.DeskFault.{DeskFault}
pub use Rattle.farm_sound.proofs.Step.{IsSound-run}
pub use Rattle.farm_store.specs.Columns.{rows_of}
pub use Rattle.farm_store.specs.Holds.{Holds}
pub use Rattle.farm_types.specs.declared.calls.Call.{Call}
pub use Rattle.farm_wire.specs.Reading.{Denial}
pub use Rattle.farm_wire.specs.declared.answers.Out.{Out}
pub use Rattle.farm_wire.specs.declared.ask.Ask.{Ask}
pub use Rattle.farm_wire.specs.declared.fault.AskFault.{AskFault}
pub use Rattle.sqlite.specs.Held.{state}
pub use Rattle.sqlite.specs.Tree.{Trees}
pub use Rattle.sqlite_trees.specs.View.{doubt}
pub use Rattle.sqlite_trees.specs.declared.store.Store.{Ghosts}
pub use Rattle.std.proofs.lemmas.List.{append_assoc, length-append}
pub use Rattle.std.proofs.lemmas.List.Sums.{fold-append}
