-- The methods of `block` and `final`: where the attribute is not there, those of the schema element's blockDefault and finalDefault;
-- and of these what fits the component.
use Rattle.std.specs.Prelude.{false, List, [], ◌∷◌, Option}
use Rattle.std.specs.Option.{unwrap_or}
use Rattle.xs_components.specs.declared.common.Methods.{Methods}
use Rattle.schema_shape.specs.declared.forms.Form.{Form}
use Rattle.schema_shape.specs.declared.forms.Form.TheVariants as shapes
use Rattle.schema_shape.specs.declared.forms.Shape.{Shape}
use Rattle.representations.specs.declared.defaults.Defaults.{Defaults}

abbrev pub no_methods : Methods
no_methods = record { extension = false; restriction = false; substitution = false; by_list = false; by_union = false }

-- Structures 3.15.2: the defaults of a document, whose first shape is that of the schema element
abbrev pub defaults_in : Form → Defaults
defaults_in (shapes.Schema form) = record { finals = unwrap_or form.finals no_methods; blocks = unwrap_or form.blocks no_methods }
defaults_in _ = record { finals = no_methods; blocks = no_methods }

abbrev pub defaults_of : List Shape → Defaults
defaults_of [] = record { finals = no_methods; blocks = no_methods }
defaults_of (shape ∷ shapes) = defaults_in shape.form

-- Structures 3.3.2, {substitution group exclusions}; 3.4.2, {final} and {prohibited substitutions}
abbrev pub for_derivation : Methods → Methods
for_derivation m = record { extension = m.extension; restriction = m.restriction; substitution = false; by_list = false; by_union = false }

-- Structures 3.3.2, {disallowed substitutions}
abbrev pub for_substitution : Methods → Methods
for_substitution m = record { extension = m.extension; restriction = m.restriction; substitution = m.substitution; by_list = false; by_union = false }

-- Structures 3.14.2, {final}
abbrev pub for_simple_type : Methods → Methods
for_simple_type m = record { extension = false; restriction = m.restriction; substitution = false; by_list = m.by_list; by_union = m.by_union }

-- the attribute's methods, else the default
abbrev pub chosen : Option Methods → Methods → Methods
chosen own default = unwrap_or own default
