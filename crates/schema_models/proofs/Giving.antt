-- What terms give to names, as names are added to the table.
use Rattle.std.proofs.Common.{◌≡◌, ℕ, ◌<◌, List, map, length, slice_index_or, sym, ap, ◌∙◌, arith}
use Rattle.std.specs.Prelude.{Contains}
use Rattle.std.proofs.lemmas.List.{length-map, get_or-map}
use Rattle.std.proofs.lemmas.List.Elements.{Contains-get_or}
use Rattle.xs_names.specs.Names.{NameTable, Grown}
use Rattle.content_automaton.specs.declared.symbol_terms.Given.{Given}
use Rattle.content_automaton.specs.declared.symbol_terms.Accepts.{Accepts}
use Rattle.content_automaton.specs.declared.symbol_terms.Accepts.TheVariants.{Element, Wildcard}
use Rattle.content_automaton.specs.declared.attribution.Attribution.{Attribution}
use Rattle.content_automaton.specs.declared.attribution.Attribution.TheVariants.{Nothing, OneClass, Ambivalent}
use Rattle.content_automaton.specs.Terms.{ExpandedName, name_at, Gives}
use Rattle.content_automaton.specs.Symbols.{IsNamed}
use Rattle.content_automaton.specs.Attribution.{GivesAt, IsStranger, IsFirstTerm, IsOfOneClass, IsAmbivalent, IsAttributed}
use Rattle.content_automaton.proofs.Symboling.{name_grown}

-- a name that is given is among those that the term accepts
given-name : (given : List Given) (g : Given) → Contains given g → Contains (map (λ (g : Given). g.name) given) g.name
given-name given g (k, l, e) =
    let many = length-map given (λ (g : Given). g.name) in (k, omega arith, get_or-map (λ (g : Given). g.name) given k g g.name l ∙ ap (λ (g : Given). g.name) e)

module _ (old new : NameTable) (grown : Grown old new) (terms : List Accepts) (within : (n : ℕ) → IsNamed terms n → n < length old.names) (name : ExpandedName) where
  -- a name that a term gives keeps its meaning
  kept : (given : List Given) → Contains terms (Element given) → (g : Given) → Contains given g → name_at new g.name ≡ name_at old g.name
  kept given c g h = name_grown old new grown g.name (within g.name (Element given, c, given-name given g h))

  gives-new : (a : Accepts) → Contains terms a → (class : ℕ) → Gives old a name class → Gives new a name class
  gives-new (Element given) c class (g, h, is, of) = (g, h, kept given c g h ∙ is, of)
  gives-new (Wildcard namespaces own) c class h = h

  gives-old : (a : Accepts) → Contains terms a → (class : ℕ) → Gives new a name class → Gives old a name class
  gives-old (Element given) c class (g, h, is, of) = (g, h, sym (kept given c g h) ∙ is, of)
  gives-old (Wildcard namespaces own) c class h = h

  at-new : (k class : ℕ) → GivesAt old terms name k class → GivesAt new terms name k class
  at-new k class (l, h) = (l, (λ a. gives-new (slice_index_or terms k a) (Contains-get_or terms k a l) class (h a)))

  at-old : (k class : ℕ) → GivesAt new terms name k class → GivesAt old terms name k class
  at-old k class (l, h) = (l, (λ a. gives-old (slice_index_or terms k a) (Contains-get_or terms k a l) class (h a)))

  pub stranger-new : IsStranger old terms name → IsStranger new terms name
  stranger-new h = λ k class g. h k class (at-old k class g)

  pub stranger-old : IsStranger new terms name → IsStranger old terms name
  stranger-old h = λ k class g. h k class (at-new k class g)

  pub first-new : (first : ℕ) → IsFirstTerm old terms name first → IsFirstTerm new terms name first
  first-new first ((class, g), least) = ((class, at-new first class g), (λ k c h. least k c (at-old k c h)))

  pub first-old : (first : ℕ) → IsFirstTerm new terms name first → IsFirstTerm old terms name first
  first-old first ((class, g), least) = ((class, at-old first class g), (λ k c h. least k c (at-new k c h)))

  pub ambivalent-new : IsAmbivalent old terms name → IsAmbivalent new terms name
  ambivalent-new (i, j, c, d, g, h, differ) = (i, j, c, d, at-new i c g, at-new j d h, differ)

  pub ambivalent-old : IsAmbivalent new terms name → IsAmbivalent old terms name
  ambivalent-old (i, j, c, d, g, h, differ) = (i, j, c, d, at-old i c g, at-old j d h, differ)

  one-new : IsOfOneClass old terms name → IsOfOneClass new terms name
  one-new one = λ i j c d g h. one i j c d (at-old i c g) (at-old j d h)

  pub attributed-new : (x : Attribution) → IsAttributed old terms name x → IsAttributed new terms name x
  attributed-new Nothing h = stranger-new h
  attributed-new (OneClass first class) (f, one) = (first-new first f, one-new one)
  attributed-new (Ambivalent first) (f, different) = (first-new first f, ambivalent-new different)
