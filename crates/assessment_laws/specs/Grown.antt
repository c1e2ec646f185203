-- Schema sets whose table of names has grown.
use Rattle.xs_names.specs.Names.{NameTable}
use Rattle.assessment.specs.Attribution.{SchemaSet}

-- the set with this table of names
abbrev pub with_table : SchemaSet → NameTable → SchemaSet
with_table s names = record s { names = names }
