-- Entries of maps, and how two of one name are made one.
use Rattle.std.specs.Prelude.{ℕ, Bool, false, ◌&&◌, ◌||◌, not, ◌==◌, Option, None, Some}
use Rattle.attr_uses.specs.declared.entry.UseHolder.{UseHolder}
use Rattle.attr_uses.specs.declared.entry.UseHolder.TheVariants.{Complex as OfType, AttrGroup as OfGroup}
use Rattle.attr_uses.specs.declared.entry.UseAt.{UseAt}
use Rattle.attr_uses.specs.declared.entry.Entry.{Entry}
use Rattle.attr_uses.specs.declared.join.Join.{Join}
use Rattle.attr_uses.specs.declared.join.Join.TheVariants.{Union, Override, Without}

-- one component
abbrev pub same_holder : UseHolder → UseHolder → Bool
same_holder (OfType a) (OfType b) = a == b
same_holder (OfType a) (OfGroup b) = false
same_holder (OfGroup a) (OfType b) = false
same_holder (OfGroup a) (OfGroup b) = a == b

-- one use: it is written in one place
abbrev pub same_use : UseAt → UseAt → Bool
same_use a b = (a.place == b.place) && same_holder a.holder b.holder

-- the uses of one entry, and then those of another
abbrev pub both_entries : Entry → Entry → Entry
both_entries a b = record a { double = a.double || b.double || not (same_use a.first b.first) }

-- what a join leaves of the first where the second has nothing
abbrev pub alone : Join → Entry → Option Entry
alone Union a = Some a
alone Override a = Some a
alone Without a = None

abbrev pub kept : Join → ℕ → ℕ
kept Union first = first
kept Override first = first
kept Without first = 0

abbrev pub joined_both : Join → Entry → Entry → Option Entry
joined_both Union a b = Some (both_entries a b)
joined_both Override a b = Some a
joined_both Without a b = None

abbrev pub joined_some : Join → Entry → Option Entry → Option Entry
joined_some how a None = alone how a
joined_some how a (Some b) = joined_both how a b

-- What a join of two maps has for a name: in a union the uses of the first and then those of the second; those of the first,
-- or else those of the second; those of the second where the first has nothing.
abbrev pub joined : Join → Option Entry → Option Entry → Option Entry
joined how None b = b
joined how (Some a) b = joined_some how a b
