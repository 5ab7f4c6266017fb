-- What was found so far and what is left give all the values.
use Rattle.std.proofs.Common.{◌≡◌, ◌++◌, map, drop}
use Rattle.std.specs.Option.{option_copied, option_to_list}
use Rattle.httparse.specs.Spans.{header_bytes}
use Rattle.farm_http.specs.Fields.{field_values}
use Rattle.farm_http.proofs.fields.find.Given as goal

abbrev pub invariant-loop-header : goal.invariant-loop-header
invariant-loop-header l =
    option_to_list (option_copied l.found) ++ field_values l.name (map (header_bytes l.buf) (drop l.header-index l.headers)) ≡ field_values l.name (map (header_bytes l.buf) l.headers)
