-- Farms whose words are words: those that tables can spell.
use Rattle.std.specs.Prelude.{◌≡◌, ◌≢◌, IsTrue, None, IfSome}
use Rattle.std.specs.List.{AllByRecursion}
use Rattle.farm_types.specs.Names.{Farm, is_priority, IsKey, IsName, IsTags, IsText, texts_of}
use Rattle.farm_types.specs.declared.rows.TypeRow.{TypeRow}
use Rattle.farm_types.specs.declared.rows.BoardRow.{BoardRow}
use Rattle.farm_types.specs.declared.rows.JobRow.{JobRow}
use Rattle.farm_types.specs.declared.rows.JobState.{JobState}
use Rattle.farm_types.specs.declared.rows.ResRow.{ResRow}
use Rattle.farm_types.specs.declared.rows.KeptRow.{KeptRow}

abbrev pub IsReadableType : TypeRow → Type 0
IsReadableType r = IsName r.name

pub record IsReadableBoard (r : BoardRow) : Type 0 where
  pub name : IsName r.name
  pub kind : IsName r.kind
  pub tags : IsTags r.tags

pub record IsReadableJob (r : JobRow) : Type 0 where
  pub owner : IsName r.owner
  pub priority : IsTrue (is_priority r.priority)
  pub kind : IfSome r.want.kind IsName
  pub tags : IsTags r.want.tags
  pub role : IfSome r.role IsName
  pub board : IfSome r.board IsName
  pub texts : AllByRecursion IsText (texts_of r)

-- a reservation names no type
pub record IsReadableRes (r : ResRow) : Type 0 where
  pub owner : IsName r.owner
  pub priority : IsTrue (is_priority r.priority)
  pub kind : r.want.kind ≡ None
  pub tags : IsTags r.want.tags
  pub board : IfSome r.board IsName

pub record IsReadableKept (r : KeptRow) : Type 0 where
  pub caller : IsName r.caller
  pub key : IsKey r.key

pub record IsReadable (F : Farm) : Type 0 where
  pub types : AllByRecursion IsReadableType F.types
  pub boards : AllByRecursion IsReadableBoard F.boards
  pub jobs : AllByRecursion IsReadableJob F.jobs
  pub reservations : AllByRecursion IsReadableRes F.reservations
  pub kept : AllByRecursion IsReadableKept F.kept

-- a farm that the first edition's tables can spell: besides, no job is Scheduling, and no group
-- collects
pub record IsReadableFirst (F : Farm) : Type 0 where
  pub words : IsReadable F
  pub states : AllByRecursion (λ j. j.state ≢ JobState.Scheduling) F.jobs
  pub none : F.collector ≡ 0
