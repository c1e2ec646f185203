-- The namespaces that a wildcard admits, as they are written (Structures 3.10.2).
use Rattle.std.specs.Prelude.{ℕ, List, map, if◌then◌else◌, codes}
use Rattle.std.specs.Str.{bytes_eq}
use Rattle.xs_names.specs.WhiteSpace.{items}
use Rattle.schema_values.specs.declared.spaces.SpaceToken.{SpaceToken}
use Rattle.schema_values.specs.declared.spaces.SpaceToken.TheVariants as tokens
use Rattle.schema_values.specs.declared.spaces.Spaces.{Spaces}
use Rattle.schema_values.specs.declared.spaces.Spaces.TheVariants as spaces

abbrev pub token_of : List ℕ → SpaceToken
token_of word =
    if bytes_eq word (codes "##targetNamespace") then tokens.Target
    else (if bytes_eq word (codes "##local") then tokens.Local else tokens.Named word)

-- ##any, ##other, or a list of names of namespaces, ##targetNamespace and ##local
abbrev pub spaces_of : List ℕ → Spaces
spaces_of text =
    if bytes_eq text (codes "##any") then spaces.Any
    else (if bytes_eq text (codes "##other") then spaces.Other else spaces.These (map token_of (items text)))
