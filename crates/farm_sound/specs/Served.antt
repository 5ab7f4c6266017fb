-- A farm in which nothing is left to serve.
use Rattle.std.specs.Prelude.{◌≡◌, ◌≤◌, None, map}
use Rattle.std.specs.List.{AllByRecursion}
use Rattle.farm_types.specs.Names.{claims, Farm, giving_back, is_free, least, members}

-- no claim is met by free boards
abbrev pub IsServed : Farm → Type 0
IsServed F = AllByRecursion (λ c. least F.boards (is_free F.types) c.wants ≡ None) (claims F)

-- the group that collects isn't met even by the free boards and its own together: those that are
-- free when it gives its own back
abbrev pub IsCollectorUnmet : Farm → Type 0
IsCollectorUnmet F = 1 ≤ F.collector → least (giving_back F).boards (is_free F.types)
    (map (λ m. m.want) (members F F.collector)) ≡ None
