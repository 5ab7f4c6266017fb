-- The names that the proofs share, of what other crates have.
pub use Rattle.farm_store.specs.Columns.{board_columns, by_first, by_two, first_meta_rows, first_schema, first_state_code, holder_of, is_version_row}
pub use Rattle.farm_store.specs.Columns.{IsOfSchema, job_columns, kept_columns, meta_row, meta_rows, meta_values, no_rows, number_rows, numbers_of, res_columns}
pub use Rattle.farm_store.specs.Columns.{second_schema, TableRows, type_columns, unit_code}
pub use Rattle.farm_store.specs.Editions.{IsCollectorIn, IsReadableIn, IsReadableJobIn, IsStateIn, job_columns_in, meta_rows_in, other_edition, rows_in}
pub use Rattle.farm_store.specs.Editions.{schema_of, state_code_in, table_columns_in, tables_with_jobs, version_fault}
pub use Rattle.farm_store.specs.Edits.{GoesOn, HasRun}
pub use Rattle.farm_store.specs.Holds.{Holds, HoldsWith, IsInside, IsMadeIn, ReadsOnly, SeesSixTables, ShowsTables, ShowsTablesWith, Stands, StandsWith}
pub use Rattle.farm_store.specs.Places.{HoldsAt, IsTableSlot, of_boards_with, of_jobs_with, of_kept_with, of_meta, of_reservations_with, of_types_with, put_at}
pub use Rattle.farm_store.specs.Places.{TableSlot}
pub use Rattle.farm_store.specs.Queries.{AsksFor, OnlyReads, ReturnsFirstRows, ReturnsRows}
pub use Rattle.farm_store.specs.Raising.{columns_below, edition_below, raised_below}
pub use Rattle.farm_store.specs.Readable.{IsReadableBoard, IsReadableKept, IsReadableRes, IsReadableType}
pub use Rattle.farm_store.specs.Reading.{CommitShows, HasColumns, IsNoVersionFault, IsVersion, IsVersionFault, LooksFirst, ReadsAll, ReadsAs, ReadsEdition}
pub use Rattle.farm_store.specs.Reading.{ReadsFarm, ReadsRow, ReadsWord, StandsIn}
pub use Rattle.farm_store.specs.Schema.{boards_table, farm_columns, farm_schema, HasSixTables, jobs_table, kept_table, meta_table, no_schema}
pub use Rattle.farm_store.specs.Schema.{reservations_table, schema_with, strict_table, TableColumns, types_table}
pub use Rattle.farm_store.specs.Stored.{Differ, HasInt, IsStrict, IsWide, ListsRows, row_less_rowid, with_number}
pub use Rattle.farm_store.specs.Texts.{untagged}
pub use Rattle.farm_store.specs.declared.edition.Edition.{Edition}
pub use Rattle.farm_store.specs.declared.fault.StoreFault.{StoreFault}
pub use Rattle.farm_store.specs.declared.fault.StoreFault.TheVariants.{BadStore, Store}
pub use Rattle.farm_types.proofs.SortedTags.{tags_read_back, tags_read_only}
pub use Rattle.farm_types.specs.Codes.{health_code, health_with, job_state_code, job_state_with, outcome_code, outcome_with, res_state_code, res_state_with}
pub use Rattle.farm_types.specs.Codes.{state_code, state_with}
pub use Rattle.farm_types.specs.Farm.{empty_farm, Farm, farm_of, put_rows}
pub use Rattle.farm_types.specs.Small.{every_of, held_by, IsSmall, IsSmallJob}
pub use Rattle.farm_types.specs.Table.{put}
pub use Rattle.farm_types.specs.declared.calls.Rows.{Rows}
pub use Rattle.farm_types.specs.declared.rows.BoardRow.{BoardRow}
pub use Rattle.farm_types.specs.declared.rows.JobRow.{JobRow}
pub use Rattle.farm_types.specs.declared.rows.JobState.{JobState}
pub use Rattle.farm_types.specs.declared.rows.KeptRow.{KeptRow}
pub use Rattle.farm_types.specs.declared.rows.MetaRow.{MetaRow}
pub use Rattle.farm_types.specs.declared.rows.ResRow.{ResRow}
pub use Rattle.farm_types.specs.declared.rows.TypeRow.{TypeRow}
pub use Rattle.sqlite.proofs.Callers.{command_of, given_begin, IsPlain, one_step, runs_as, statement_of, unchanged_then}
pub use Rattle.sqlite.specs.Cast.{cast, cast_all, cast_row}
pub use Rattle.sqlite.specs.Command.TheVariants.{CreateTable, DropTable, InsertOr, Select, Update}
pub use Rattle.sqlite.specs.Does.{AtPlace, Does, Drops, lacks_sequence, OnRows, Tally}
pub use Rattle.sqlite.specs.Edit.{id_in, with_rowid}
pub use Rattle.sqlite.specs.Effect.{Database, IsDatabase, Reads, ReadsFirst, value_rows}
pub use Rattle.sqlite.specs.Held.{Held, state}
pub use Rattle.sqlite.specs.Order.{Row}
pub use Rattle.sqlite.specs.Program.{overlay}
pub use Rattle.sqlite.specs.Query.{end, inner, IsAnswer, Output, output, page, Query}
pub use Rattle.sqlite.specs.Rowids.TheVariants.{Chosen, Given}
pub use Rattle.sqlite.specs.Rows.{Clears, mended, Puts, Task, Written}
pub use Rattle.sqlite.specs.State.{HasCleanDisk, IsUnchanged}
pub use Rattle.sqlite.specs.Term.{col, lit, Term}
pub use Rattle.sqlite.specs.Tree.{Trees}
pub use Rattle.sqlite.specs.declared.error.Error.{Error}
pub use Rattle.sqlite.specs.declared.types.Value.{Value}
pub use Rattle.sqlite.specs.declared.types.Value.TheVariants.{Int, Null}
pub use Rattle.sqlite_catalog.specs.Listing.{AreListed}
pub use Rattle.sqlite_rules.proofs.ListLemmas.{all_from, all_has, has_filtered, has_kept, some_from}
pub use Rattle.sqlite_rules.proofs.PlaceLemmas.{given, left_or_taken, next_is_free, row_at_is, tied_same}
pub use Rattle.sqlite_rules.proofs.ProbeLemmas.{has_mapped, mapped_has}
pub use Rattle.sqlite_rules.proofs.TableLemmas.{int_is, put_all_adds, put_all_has, put_all_keeps, without_all_has}
pub use Rattle.sqlite_rules.specs.Action.{works}
pub use Rattle.sqlite_rules.specs.Calls.{ids_of}
pub use Rattle.sqlite_rules.specs.Edit.{is_taken, next_rowid}
pub use Rattle.sqlite_rules.specs.Keys.{AreConflicts, conflicts}
pub use Rattle.sqlite_rules.specs.Lists.{Has}
pub use Rattle.sqlite_schema.specs.Rules.{agree, differ, equal}
pub use Rattle.sqlite_schema.specs.declared.command.Conflict.TheVariants.{Abort, Replace}
pub use Rattle.sqlite_schema.specs.declared.command.Upsert.{Upsert}
pub use Rattle.sqlite_schema.specs.declared.schema.Column.{Column}
pub use Rattle.sqlite_schema.specs.declared.schema.Keys.{Keys}
pub use Rattle.sqlite_sql.specs.Ops.{is_null}
pub use Rattle.sqlite_sql.specs.Query.{matches, output_cmp}
pub use Rattle.sqlite_sql.specs.Term.{case, op1, op2}
pub use Rattle.sqlite_sql.specs.declared.ops.BinaryOp.TheVariants.{Arith, Compare}
pub use Rattle.sqlite_sql.specs.declared.ops.CompareOp.TheVariants.{Eq, Ge, Gt, Lt, Ne}
pub use Rattle.sqlite_trees.specs.Objects.{catalog_tree}
pub use Rattle.sqlite_trees.specs.Tree.{has_rowid, IsAscending, IsTable, put_row, rowid, without_rowid}
pub use Rattle.sqlite_trees.specs.View.{is_int}
pub use Rattle.sqlite_value.proofs.OrderLemmas.{then-Equal, value_cmp-Int, value_cmp-Null, value_cmp-Text, value_cmp_total}
pub use Rattle.sqlite_value.specs.Keys.{ascending, plain}
pub use Rattle.sqlite_value.specs.Order.{column}
pub use Rattle.sqlite_value.specs.declared.keys.Collation.TheVariants.{Binary}
pub use Rattle.sqlite_value.specs.declared.keys.Order.{Order}
pub use Rattle.std.proofs.lemmas.Bool.{cases_Bool, false_from_ne_true, le-ltb, lt-ltb, not-true}
pub use Rattle.std.proofs.lemmas.Bool.Decides.{nat_tests}
pub use Rattle.std.proofs.lemmas.Cmp.{int_cmp_total, on_total, then_total, tied_back, tied_itself}
pub use Rattle.std.proofs.lemmas.List.{append_cancel_left, get_or-map, length-map, map-append, take_all}
pub use Rattle.std.proofs.lemmas.List.Sorted.{All-permutation, IsPermutation-sym, length_permutation, ranks_by, sorted_far, sum_by-IsPermutation}
pub use Rattle.std.proofs.lemmas.Result.{on_ok_weaker}
pub use Rattle.std.specs.Cmp.{int_cmp_is, IsTotalOrder}
pub use Rattle.std.specs.List.{AllByRecursion, AllZip, find, list_all, list_any, sum_by}
pub use Rattle.std.specs.List.Sorted.{IsPermutation, IsSorted}
pub use Rattle.std.specs.Ordering.{int_cmp, is_ne, match_ordering, MatchOrdering, nat_cmp, ordering_reverse, ordering_then}
