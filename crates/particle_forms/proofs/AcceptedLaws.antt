-- Which particles accept some name.
use Rattle.std.proofs.Common.{◌≡◌, ◌≢◌, ℕ, suc, Bool, true, false, not, ◌||◌, ◌==◌, List, [], ◌∷◌, Option, None, Some, map, length, zero, slice_get, refl, ap, arith, eqb-true}
use Rattle.std.specs.Prelude.{IsTrue, slice_index_or}
use Rattle.std.specs.List.{list_any}
use Rattle.std.proofs.lemmas.Bool.{false≢true}
use Rattle.xs_names.specs.Names.{NameTable, same_name, absent_space}
use Rattle.xs_names.proofs.NumberingLaws.{same_name-Decides}
use Rattle.xs_components.specs.Sets.{admits, has}
use Rattle.xs_components.specs.declared.namespace_constraint.NsConstraint.{NsConstraint}
use Rattle.xs_components.specs.declared.namespace_constraint.NsConstraint.TheVariants.{Any as AnySpace, Not, In}
use Rattle.xs_components.specs.Heads.{names_of}
use Rattle.xs_components.specs.Tables.{Tables}
use Rattle.xs_components.specs.declared.particle.Particle.{Particle as Part}
use Rattle.xs_components.specs.declared.particle.Term.{Term}
use Rattle.xs_components.specs.declared.particle.Term.TheVariants.{Element, Any, Group, Sequence, Choice, All}
use Rattle.particle_models.specs.Model.{IsInhabitedBy}
use Rattle.particle_forms.specs.Accepted.{term_accepts, part_accepts, accepts, has_some, admits_some, term_is_inhabited, part_is_inhabited, is_inhabited}

pub some-by-length : (ns : List ℕ) → not (length ns == 0) ≡ has_some ns
some-by-length [] = refl
some-by-length (n ∷ ns) = of (length (n ∷ ns) == 0) refl
  where
    of : (b : Bool) → (length (n ∷ ns) == 0) ≡ b → not (length (n ∷ ns) == 0) ≡ true
    of true e = let z : length (n ∷ ns) ≡ 0 = eqb-true (length (n ∷ ns)) 0 e in absurd (omega arith)
    of false e = ap not e

-- the flags of all parts
pub flags-at : (members : List (List ℕ)) (parts : List Part) (id : ℕ) →
    slice_index_or (map (λ (part : Part). term_is_inhabited members part.term) parts) id false ≡ part_is_inhabited members (slice_get parts id)
flags-at members [] id = refl
flags-at members (p ∷ ps) zero = refl
flags-at members (p ∷ ps) (suc id) = flags-at members ps id

true_or : (a b : Bool) → a ≡ true → (a || b) ≡ true
true_or true b e = refl
true_or false b e = absurd (false≢true e)

not_same : (a b : ℕ) → a ≢ b → not (a == b) ≡ true
not_same a b differ = of (a == b) refl
  where
    of : (c : Bool) → (a == b) ≡ c → not (a == b) ≡ true
    of true e = absurd (differ (eqb-true a b e))
    of false e = ap not e

module _ (names : NameTable) (members : List (List ℕ)) where
  abbrev named : ℕ → ℕ × List ℕ
  named n = slice_index_or names.names n (0, [])

  some-named : (name : ℕ × List ℕ) (ns : List ℕ) → IsTrue (list_any (λ n. same_name (named n) name) ns) → IsTrue (has_some ns)
  some-named name [] h = h
  some-named name (n ∷ ns) h = refl

  some-space : (space : ℕ) (ns : List ℕ) → IsTrue (has ns space) → IsTrue (has_some ns)
  some-space space [] h = h
  some-space space (n ∷ ns) h = refl

  space-lives : (c : NsConstraint) (space : ℕ) → IsTrue (admits c space) → IsTrue (admits_some c)
  space-lives AnySpace space h = refl
  space-lives (Not x) space h = refl
  space-lives (In ns) space h = some-space space ns h

  term-lives : (of : Term) (name : ℕ × List ℕ) → IsTrue (term_accepts names members of name) → IsTrue (term_is_inhabited members of)
  term-lives (Element e) name h = some-named name (names_of members e) h
  term-lives (Any w) name h = space-lives w.namespaces name.0 h
  term-lives (Group g) name h = h
  term-lives (Sequence ms) name h = h
  term-lives (Choice ms) name h = h
  term-lives (All ms) name h = h

  part-lives : (o : Option Part) (name : ℕ × List ℕ) → IsTrue (part_accepts names members o name) → IsTrue (part_is_inhabited members o)
  part-lives None name h = h
  part-lives (Some part) name h = term-lives part.term name h

  has-named : (ns : List ℕ) → IsTrue (has_some ns) → (name : ℕ × List ℕ) × IsTrue (list_any (λ n. same_name (named n) name) ns)
  has-named [] h = absurd (false≢true h)
  has-named (n ∷ ns) h = (named n, true_or (same_name (named n) (named n)) (list_any (λ m. same_name (named m) (named n)) ns) ((same_name-Decides (named n) (named n)).1 refl))

  other-space : (x : ℕ) → IsTrue (admits (Not x) (suc x))
  other-space x =
      let a : not (suc x == absent_space) ≡ true = not_same (suc x) absent_space (λ e. omega arith) in
      let b : not (suc x == x) ≡ true = not_same (suc x) x (λ e. omega arith) in
      rw (a, b) refl

  has-space : (c : NsConstraint) → IsTrue (admits_some c) → (name : ℕ × List ℕ) × IsTrue (admits c name.0)
  has-space AnySpace h = ((0, []), refl)
  has-space (Not x) h = ((suc x, []), other-space x)
  has-space (In []) h = absurd (false≢true h)
  has-space (In (n ∷ ns)) h = ((n, []), true_or (n == n) (list_any (λ x. x == n) ns) (itself n))
    where
      itself : (n : ℕ) → (n == n) ≡ true
      itself n = grind (arith)

  term-has : (of : Term) → IsTrue (term_is_inhabited members of) → (name : ℕ × List ℕ) × IsTrue (term_accepts names members of name)
  term-has (Element e) h = has-named (names_of members e) h
  term-has (Any w) h = has-space w.namespaces h
  term-has (Group g) h = absurd (false≢true h)
  term-has (Sequence ms) h = absurd (false≢true h)
  term-has (Choice ms) h = absurd (false≢true h)
  term-has (All ms) h = absurd (false≢true h)

  part-has : (o : Option Part) → IsTrue (part_is_inhabited members o) → (name : ℕ × List ℕ) × IsTrue (part_accepts names members o name)
  part-has None h = absurd (false≢true h)
  part-has (Some part) h = term-has part.term h

  pub inhabited-by : (t : Tables) → IsInhabitedBy (accepts names members t) (is_inhabited members t)
  inhabited-by t = record {
    lives = λ number name h. part-lives (slice_get t.particles.parts number) name h;
    has = λ number h. part-has (slice_get t.particles.parts number) h;
  }
