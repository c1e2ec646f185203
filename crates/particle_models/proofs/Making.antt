-- What is made of each node.
use Rattle.std.proofs.Common.{◌≡◌, ℕ, ◌+◌, ◌<◌, ◌≤◌, ◌==◌, ◌&&◌, inl, inr, Bool, true, false, List, [], ◌∷◌, ◌++◌, Option, None, Some, map, length, get_or, sym, refl, ap, subst, ◌∙◌, arith, eqb-true, if◌then◌else◌}
use Rattle.std.specs.Prelude.{All as Each, IfSome}
use Rattle.std.proofs.lemmas.Bool.{and_parts, cases_lt, false≢true}
use Rattle.std.proofs.lemmas.List.{get_or_append_left, get_or_push, get_or_default, length_push}
use Rattle.std.proofs.lemmas.List.Elements.{All-head, All-tail}
use Rattle.particle_models.specs.Particles.{Particle, Particles, term, sequence, choice, all_of, occurs}
use Rattle.particle_models.specs.Nodes.{members_of, model_at, model_of, models_from, model_in, PartsBelow, IsOrdered}
use Rattle.particle_models.specs.declared.node.Node.{Node}
use Rattle.particle_models.specs.declared.node.Node.TheVariants.{Term, Sequence, Choice, Each as EachOf, Occurs}
use Rattle.particle_models.proofs.Growing.{model_is}
use Rattle.particle_models.specs.Trees.{Tree, Trees, joined, once}
use Rattle.particle_models.specs.Pointless.{is_one, is_once, members_by, within, formed, gathered, term_form, unless_pointless}
use Rattle.particle_models.specs.Parts.{tree_in, form_in, trees_from, members_at}
use Rattle.particle_models.specs.Asked.{IsAsked}
use Rattle.particle_models.specs.Forming.{AreOrdered, Extends, IsPart, IsNoOccurrence, IsBody, IsMade, AreMade, AreThere, not_made, gathered_of, form_of}
use Rattle.particle_models.specs.declared.part.Bounds.{Bounds}
use Rattle.particle_models.specs.declared.part.Compositor.{Compositor}
use Rattle.particle_models.specs.declared.part.Compositor.TheVariants as compositor
use Rattle.particle_models.specs.declared.part.Part.{Part}
use Rattle.particle_models.specs.declared.forming.Made.{Made}
use Rattle.particle_models.proofs.GroupGrowing.{extends_none, form_kept, there_kept}

-- ---- bounds
once_most : (o : Option ℕ) → is_one o ≡ true → o ≡ Some 1
once_most None h = absurd (false≢true h)
once_most (Some n) h = ap Some (eqb-true n 1 h)

pub once_is : (b : Bounds) → is_once b ≡ true → b ≡ once
once_is b h =
    let p = and_parts (b.least == 1) (is_one b.most) h in
    let e : b.least ≡ 1 = eqb-true b.least 1 p.0 in
    ap (λ n. record { least = n; most = b.most }) e ∙ ap (λ o. record { least = 1; most = o }) (once_most b.most p.1)

pub within-assoc : (a b c : Bounds) → within (within a b) c ≡ within a (within b c)
within-assoc a b c = of (is_once c) refl
  where
    of : (x : Bool) → is_once c ≡ x → within (within a b) c ≡ within a (within b c)
    of true e = rw e refl
    of false e = rw e (rw e refl)

pub once_within : (b : Bounds) → within once b ≡ b
once_within b = of (is_once b) refl
  where
    of : (x : Bool) → is_once b ≡ x → within once b ≡ b
    of true e = rw e (sym (once_is b e))
    of false e = rw e refl

pub both_once : (outer inner : Bounds) → is_once (within outer inner) ≡ true → is_once outer ≡ true
both_once outer inner h = of (is_once inner) refl
  where
    of : (x : Bool) → is_once inner ≡ x → is_once outer ≡ true
    of true e = rw e at h
    of false e = absurd (false≢true (sym e ∙ rw e at h))

-- ---- the model of a node, by its kind
module _ (nodes : List Node) (i : ℕ) (n : Node) (ordered : IsOrdered nodes) (there : i < length nodes) (is : n ≡ get_or nodes i n) where
  pub model_read : (m : Node) → n ≡ m → model_in nodes i ≡ model_of (models_from [] nodes) m
  model_read m e = model_is nodes i n ordered there ∙ ap (model_of (models_from [] nodes)) (sym is ∙ e)

  pub parts_read : (m : Node) → n ≡ m → PartsBelow i m
  parts_read m e = rw (sym e) (rw is (ordered i n there))

  pub body_read : (m : Node) → n ≡ m → IsNoOccurrence m → IsBody nodes i
  body_read m e h d = rw (get_or_default nodes i d n there ∙ (sym is ∙ e)) h

  pub occurrence_read : (part least : ℕ) (most : Option ℕ) → n ≡ Occurs part least most → IsBody nodes i → ⊥
  occurrence_read part least most e h = rw (sym is ∙ e) at (h n)

pub no_occurrence : (n : Node) → ((part least : ℕ) (most : Option ℕ) → n ≡ Occurs part least most → ⊥) → IsNoOccurrence n
no_occurrence (Term number) h = tt
no_occurrence (Sequence members) h = tt
no_occurrence (Choice members) h = tt
no_occurrence (EachOf members) h = tt
no_occurrence (Occurs part least most) h = h part least most refl

module _ (stands_for : ℕ → List ℕ) (nodes : List Node) (asked : List Bool) where
  pub are_there : (parts : List Part) (made : List Made) → AreMade stands_for nodes asked parts made → AreThere parts made
  are_there parts made all i l = (all i l).there

  -- what stands for the members of a group is what was made of them
  pub gathered_is : (parts : List Part) (made : List Made) (compositor : Compositor) → AreMade stands_for nodes asked parts made → (ms : List ℕ) → Each (λ id. id < length made) ms → Each (IsAsked asked) ms →
      gathered stands_for (members_of (map (model_at (models_from [] nodes)) ms)) compositor ≡ gathered_of compositor (map (form_of parts made) ms)
  gathered_is parts made compositor all [] below asks = refl
  gathered_is parts made compositor all (m ∷ ms) below asks =
      let rest = gathered_is parts made compositor all ms (All-tail (λ id. id < length made) m ms below) (All-tail (IsAsked asked) m ms asks) in
      ap (λ f. joined (members_by compositor f) (gathered stands_for (members_of (map (model_at (models_from [] nodes)) ms)) compositor)) (sym ((all m (All-head (λ id. id < length made) m ms below)).form (All-head (IsAsked asked) m ms asks))) ∙
      ap (λ ts. joined (members_by compositor (form_of parts made m)) ts) rest

  -- a group of what was made of its members
  pub grouped : (parts : List Part) (made : List Made) (compositor : Compositor) (bounds : Bounds) (body : ℕ) (ms below : List ℕ) → AreMade stands_for nodes asked parts made → body ≤ length made → Each (λ id. id < body) ms → Each (IsAsked asked) ms →
      members_at (trees_from [] parts) below ≡ gathered_of compositor (map (form_of parts made) ms) →
      unless_pointless bounds compositor (gathered stands_for (members_of (map (model_at (models_from [] nodes)) ms)) compositor) ≡ unless_pointless bounds compositor (members_at (trees_from [] parts) below)
  grouped parts made compositor bounds body ms below all l low asks e =
      ap (unless_pointless bounds compositor) (gathered_is parts made compositor all ms (λ i d h. let k = low i d h in omega arith) asks ∙ sym e)

  -- what was made of a node stands
  pub made_kept : (old new : List Part) (i : ℕ) (m : Made) → Extends old new → IsMade stands_for nodes asked old i m → IsMade stands_for nodes asked new i m
  made_kept old new i m h was = record {
    below = was.below;
    body = was.body;
    bounds = was.bounds;
    there = there_kept old new m.form h was.there;
    form = λ a. form_kept old new m.form h was.there ∙ was.form a;
  }

  pub made_more : (old new : List Part) (made : List Made) (next : Made) → Extends old new → AreMade stands_for nodes asked old made → IsMade stands_for nodes asked new (length made) next → AreMade stands_for nodes asked new (made ++ next ∷ [])
  made_more old new made next h was is i l = elim (cases_lt i (length made)) [
    | inl before ↦ subst (IsMade stands_for nodes asked new i) (sym (get_or_append_left made (next ∷ []) not_made i before)) (made_kept old new i (get_or made i not_made) h (was i before))
    | inr behind ↦ (let e : length made ≡ i = let k = length_push made next in omega arith in
        subst (IsMade stands_for nodes asked new i) (sym (get_or_push made next not_made i e)) (subst (λ (j : ℕ). IsMade stands_for nodes asked new j next) e is))
  ]

  -- the form of what occurs once was made, where its occurrence asks for it
  pub form_made : (parts : List Part) (part : ℕ) (own : Bounds) (inner : Made) → IsMade stands_for nodes asked parts part inner → (is_once own ≡ true → IsAsked asked part) →
      is_once (within own inner.bounds) ≡ true → IsPart parts parts (formed stands_for (model_in nodes inner.body) (within own inner.bounds)) inner.form
  form_made parts part own inner was asks h =
      let both = both_once own inner.bounds h in
      let e : within once inner.bounds ≡ within own inner.bounds = ap (λ b. within b inner.bounds) (sym (once_is own both)) in
      record {
        extends = extends_none parts;
        there = was.there;
        is = was.form (asks both) ∙ (was.bounds once ∙ ap (formed stands_for (model_in nodes inner.body)) e);
      }

  -- what is made of a node without its form
  pub none_made : (parts : List Part) (i body : ℕ) (bounds : Bounds) → body ≤ i → IsBody nodes body → (get_or asked i false ≡ false) →
      ((b : Bounds) → formed stands_for (model_in nodes i) b ≡ formed stands_for (model_in nodes body) (within b bounds)) →
      IsMade stands_for nodes asked parts i (record { body = body; bounds = bounds; form = None })
  none_made parts i body bounds low b never all = record {
    below = low;
    body = b;
    bounds = all;
    there = tt;
    form = λ a. absurd (false≢true (sym never ∙ a));
  }

  -- what is made of a body
  pub body_made : (old new : List Part) (i : ℕ) (form : Option ℕ) → IsBody nodes i → IsPart old new (formed stands_for (model_in nodes i) once) form →
      IsMade stands_for nodes asked new i (record { body = i; bounds = once; form = form })
  body_made old new i form b is = record {
    below = omega arith;
    body = b;
    bounds = λ c. refl;
    there = is.there;
    form = λ a. is.is;
  }

  pub body_left : (parts : List Part) (i : ℕ) → IsBody nodes i → get_or asked i false ≡ false → IsMade stands_for nodes asked parts i (record { body = i; bounds = once; form = None })
  body_left parts i b never = none_made parts i i once (omega arith) b never (λ c. refl)

  module _ (old : List Part) (i part : ℕ) (own : Bounds) (inner : Made) (l : part < i) (was : IsMade stands_for nodes asked old part inner)
      (e : model_in nodes i ≡ occurs own.least own.most (model_in nodes part)) where
    occurs_within : (b : Bounds) → formed stands_for (model_in nodes i) b ≡ formed stands_for (model_in nodes inner.body) (within b (within own inner.bounds))
    occurs_within b = ap (λ p. formed stands_for p b) e ∙ (was.bounds (within b own) ∙ ap (formed stands_for (model_in nodes inner.body)) (within-assoc b own inner.bounds))

    -- what is made of an occurrence
    pub occurrence_made : (new : List Part) (form : Option ℕ) → IsPart old new (formed stands_for (model_in nodes inner.body) (within own inner.bounds)) form →
        IsMade stands_for nodes asked new i (record { body = inner.body; bounds = within own inner.bounds; form = form })
    occurrence_made new form is = record {
      below = (let k = was.below in omega arith);
      body = was.body;
      bounds = occurs_within;
      there = is.there;
      form = λ a. is.is ∙ sym (occurs_within once ∙ ap (formed stands_for (model_in nodes inner.body)) (once_within (within own inner.bounds)));
    }

    pub occurrence_left : get_or asked i false ≡ false → IsMade stands_for nodes asked old i (record { body = inner.body; bounds = within own inner.bounds; form = None })
    occurrence_left never = none_made old i inner.body (within own inner.bounds) (let k = was.below in omega arith) was.body never occurs_within
