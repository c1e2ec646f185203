-- What the constraints on value constraints and on restrictions ask of compiled components.
use Rattle.std.proofs.Common.{inl, inr, ◌≡◌, ℕ, ◌<◌, Some, length, sym, ap, subst}
use Rattle.xs_codes.specs.declared.fault.Fault.{Fault}
use Rattle.std.specs.Prelude.{List, Bool, Option, slice_get}
use Rattle.std.proofs.lemmas.Option.{slice_get_within, get_or_from_slice_get}
use Rattle.xs_components.specs.Tables.{Tables}
use Rattle.xs_components.specs.declared.attribute.AttributeDecl.{AttributeDecl}
use Rattle.xs_codes.specs.Least.{IsLeast, sooner}
use Rattle.xs_codes.proofs.LeastLaws.{least-sum}
use Rattle.derive_faults.specs.AttrFaults.{IsAttrFault}
use Rattle.elem_assess.specs.Texts.{is_simple_content}
use Rattle.schema_check.specs.declared.documents.CompiledSet.{CompiledSet}
use Rattle.derive_faults.specs.Given.{AreGiven, AreRead}
use Rattle.derive_restriction.specs.Given as restrictions
use Rattle.derive_faults.specs.ValueFaults.{IsValueFault}
use Rattle.schema_compile.specs.Fit.{IsFit}
use Rattle.schema_compile.specs.Outcomes.{IsPropertyFault}

pub given : (made : CompiledSet) → IsFit made → AreGiven made.parts
given made fit = record {
  ranked = fit.ranked;
  simple = fit.simple;
  attributes = fit.attributes;
  elements = fit.types;
  own = λ n part own step at is. let x = fit.own n part own step at is in (x.there, x.simple);
  contents = fit.contents;
}

pub read : (made : CompiledSet) → IsFit made → AreRead made.parts made.types
read made fit = record {
  judged = fit.judged;
  attributes = λ n decl at. fit.literals decl.of (fit.readable n decl at);
  contents = λ of there either. fit.whole of there (elim either [ inl e ↦ ap is_simple_content e | inr e ↦ ap is_simple_content e ]);
}

pub least-properties : (t : Tables) (ids : List Bool) (uses values result : Option Fault) → result ≡ sooner uses values → IsLeast (IsAttrFault t ids) uses → IsLeast (IsValueFault t) values
    → IsLeast (IsPropertyFault t ids) result
least-properties t ids uses values result is x y = subst (IsLeast (IsPropertyFault t ids)) (sym is) (least-sum (IsAttrFault t ids) (IsValueFault t) uses values x y)

-- what restrictions ask
named : (made : CompiledSet) → IsFit made → (n : ℕ) (decl : AttributeDecl) → slice_get made.parts.attributes.parts n ≡ Some decl → decl.name < length made.names.names
named made fit n decl at =
    let all = made.parts.attributes.parts in
    subst (λ (d : AttributeDecl). d.name < length made.names.names) (get_or_from_slice_get all n decl decl at) (fit.named.attributes n decl (slice_get_within all n decl at))

pub compared : (made : CompiledSet) → IsFit made → restrictions.AreGiven made.parts made.names
compared made fit = record {
  ranked = fit.ranked;
  simple = fit.simple;
  attributes = λ n decl at. record { named = named made fit n decl at; typed = fit.attributes n decl at; simple = fit.readable n decl at };
  own = λ n part own step at is. (fit.own n part own step at is).there;
  contents = fit.contents;
}

pub known : (made : CompiledSet) → IsFit made → restrictions.AreTypes made.parts made.types
known made fit = record { judged = fit.judged; whole = fit.literals }
