-- What particles stand for are numbers of element declarations, and of wildcards behind them.
use Rattle.std.proofs.Common.{◌≡◌, ◌⊎◌, inl, inr, ℕ, suc, ◌+◌, ◌<◌, ◌≤◌, ◌==◌, ◌&&◌, Bool, true, false, if◌then◌else◌, List, [], ◌∷◌, Option, None, Some, length, slice_get, refl, sym, subst, arith}
use Rattle.std.specs.Prelude.{All as Each, slice_index_or, unwrap_or}
use Rattle.std.specs.Option.{option_or}
use Rattle.std.proofs.lemmas.Bool.{cases_lt}
use Rattle.std.proofs.lemmas.Option.{none-some, same_Some, slice_get_cases, slice_get_past}
use Rattle.std.proofs.lemmas.List.Elements.{All-nil, All-cons, All-map}
use Rattle.xs_components.specs.Tables.{Tables}
use Rattle.xs_components.specs.declared.common.Wildcard.{Wildcard}
use Rattle.xs_components.specs.declared.element.ElementDecl.{ElementDecl}
use Rattle.xs_components.specs.declared.particle.Particle.{Particle as Part}
use Rattle.xs_components.specs.declared.particle.Term.{Term}
use Rattle.xs_components.specs.declared.particle.Term.TheVariants.{Element, Any, Group, Sequence, Choice, All}
use Rattle.xs_components.specs.Heads.{names_of}
use Rattle.component_tables.specs.Types.{global_from, global_of, has_name, given_declaration}
use Rattle.derive_models.specs.Standing.{stands_by, stands_in, stands_for}

-- the number of an element declaration
pub record IsDeclared (t : Tables) (n : ℕ) : Type 0 where
  pub part : ElementDecl
  pub is : slice_get t.elements.parts n ≡ Some part

-- the number of a wildcard
pub record IsWild (t : Tables) (n : ℕ) : Type 0 where
  pub particle : ℕ
  pub part : Part
  pub wildcard : Wildcard
  pub is : slice_get t.particles.parts particle ≡ Some part
  pub any : part.term ≡ Any wildcard
  pub number : n ≡ length t.elements.parts + particle

abbrev pub Stands : Tables → ℕ → Type 0
Stands t n = IsDeclared t n ⊎ IsWild t n

-- ---- declarations that are given to names
global-step : (here : Bool) (number k count : ℕ) (later : Option ℕ) → (later ≡ Some k → (suc number ≤ k) × (k < suc number + count)) →
    option_or (if here then Some number else None) later ≡ Some k → (number ≤ k) × (k < number + suc count)
global-step true number k count later more e = let same : number ≡ k = same_Some number k e in (omega arith, omega arith)
global-step false number k count later more e = let m = more e in (omega (arith, m.0), omega (arith, m.1))

global-there : (parts : List ElementDecl) (number name k : ℕ) → global_from parts number name ≡ Some k → (number ≤ k) × (k < number + length parts)
global-there [] number name k e = absurd (none-some k e)
global-there (part ∷ parts) number name k e =
    global-step (part.global && (part.name == name)) number k (length parts) (global_from parts (suc number) name) (global-there parts (suc number) name k) e

module _ (t : Tables) where
  declared-there : (n : ℕ) → n < length t.elements.parts → IsDeclared t n
  declared-there n l = elim (slice_get_cases t.elements.parts n).1 [
    | inl x ↦ record { part = x.0; is = x.2 }
    | inr x ↦ absurd (omega (arith, x.0))
  ]

  given-there : (element name : ℕ) → IsDeclared t element → IsDeclared t (given_declaration t element name)
  given-there element name itself = by-name (has_name (slice_get t.elements.parts element) name)
    where
      by-global : (r : Option ℕ) → global_of t name ≡ r → IsDeclared t (unwrap_or r element)
      by-global None e = itself
      by-global (Some k) e = let g = global-there t.elements.parts 0 name k e in declared-there k (omega (arith, g.1))

      by-name : (c : Bool) → IsDeclared t (if c then element else unwrap_or (global_of t name) element)
      by-name true = itself
      by-name false = by-global (global_of t name) refl

-- ---- particles, where no element that is not there has a group of members
module _ (t : Tables) (members : List (List ℕ)) (few : length members ≤ length t.elements.parts) where
  given-stand : (element : ℕ) → Each (λ name. Stands t (given_declaration t element name)) (names_of members element)
  given-stand element = elim (cases_lt element (length t.elements.parts)) [
    | inl l ↦ (λ k d within. inl (given-there t element (slice_index_or (names_of members element) k d) (declared-there t element l)))
    | inr past ↦
        (let none : slice_get members element ≡ None = slice_get_past members element (omega arith) in
        subst (λ (o : Option (List ℕ)). Each (λ name. Stands t (given_declaration t element name)) (unwrap_or o [])) (sym none) (All-nil (λ name. Stands t (given_declaration t element name))))
  ]

  term-stands : (particle : ℕ) (part : Part) → slice_get t.particles.parts particle ≡ Some part → (of : Term) → part.term ≡ of → Each (Stands t) (stands_by t members particle of)
  term-stands particle part is (Element element) e = All-map (Stands t) (given_declaration t element) (names_of members element) (given-stand element)
  term-stands particle part is (Any wildcard) e =
      All-cons (Stands t) (length t.elements.parts + particle) []
      (inr (record { particle = particle; part = part; wildcard = wildcard; is = is; any = e; number = refl }))
      (All-nil (Stands t))
  term-stands particle part is (Group group) e = All-nil (Stands t)
  term-stands particle part is (Sequence parts) e = All-nil (Stands t)
  term-stands particle part is (Choice parts) e = All-nil (Stands t)
  term-stands particle part is (All parts) e = All-nil (Stands t)

  pub all-stand : (particle : ℕ) → Each (Stands t) (stands_for t members particle)
  all-stand particle = by-part (slice_get t.particles.parts particle) refl
    where
      by-part : (r : Option Part) → slice_get t.particles.parts particle ≡ r → Each (Stands t) (stands_in t members particle r)
      by-part None e = All-nil (Stands t)
      by-part (Some part) e = term-stands particle part e part.term refl
