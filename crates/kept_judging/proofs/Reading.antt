-- What governs an element, as it is read off a view of the set and off the element's head.
use Rattle.std.proofs.Common.{◌≡◌, ◌↔◌, ℕ, Bool, true, false, List, Option, None, refl, sym, ap, ◌∙◌, subst}
use Rattle.std.proofs.lemmas.Bool.{true≢false}
use Rattle.std.proofs.lemmas.Option.{none-some}
use Rattle.xs_names.specs.Names.{NameTable}
use Rattle.xs_components.specs.Tables.{Tables}
use Rattle.component_tables.specs.Types.{DeclarationTable}
use Rattle.component_tables.specs.Named.{Spaces}
use Rattle.assess_records.specs.Instance.{instance_text}
use Rattle.assess_records.specs.Numbered.{Head}
use Rattle.assess_records.specs.declared.instance_names.InstanceAttribute.TheVariants.{TypeName}
use Rattle.elem_governing.specs.Governing.{governed, govern_root, govern_child, child_mode, particle_declaration, accepting_particle}
use Rattle.elem_governing.specs.Heads.{head_by}
use Rattle.elem_governing.specs.View.{IsView, AreKnown}
use Rattle.elem_governing.specs.declared.head.ElementHead.{ElementHead}
use Rattle.elem_governing.specs.declared.pairs.Governing.{Governing}
use Rattle.elem_governing.specs.declared.pairs.Mode.{Mode}
use Rattle.elem_governing.specs.declared.pairs.Mode.TheVariants.{Strict, Lax, Skip}
use Rattle.elem_governing.proofs.There.{root-there, child-there}
use Rattle.elem_governing.specs.Again.{regoverned}
use Rattle.compiled_schema.specs.Usable.{IsUsable, set_of}
use Rattle.compiled_schema.specs.declared.compiled.Compiled.{Compiled}
use Rattle.doc_nodes.specs.Nodes.{Nodes}
use Rattle.doc_changes.specs.Readers.{name_at, scope_at}
use Rattle.doc_readers.specs.Heads.{texts_named}
use Rattle.kept_state.specs.from_kept_records.Fit.{head_at}
use Rattle.kept_state.specs.Kept.{CanGovern}
use Rattle.kept_judging.specs.Judged.{root_pair, given_pair, again_pair}

-- ---- read off a view and a head

module _ (c : Compiled) (names : NameTable) (parts : Tables) (names_is : names ≡ c.names) (parts_is : parts ≡ c.parts) where
  pub viewed : (d : DeclarationTable) (n : Spaces) → d ≡ c.declarations → n ≡ c.named → IsUsable c → IsView parts d n
  viewed d n e f usable =
      subst (λ (x : Tables). IsView x d n) (sym parts_is)
      (subst (λ (x : DeclarationTable). IsView c.parts x n) (sym e) (subst (λ (x : Spaces). IsView c.parts c.declarations x) (sym f) usable.view))

  pub known-read : (scope read : List (List ℕ × ℕ)) → read ≡ scope → AreKnown c.names scope → AreKnown names read
  known-read scope read e known = subst (λ (t : NameTable). AreKnown t read) (sym names_is) (subst (AreKnown c.names) (sym e) known)

  -- a child that has no attribute xsi:type
  pub untyped-read : (ns : Nodes) (n name : ℕ) → name ≡ name_at ns n → instance_text c.names (texts_named ns n) TypeName ≡ None → (parent : Governing) (term : Option ℕ)
      → govern_child names parts parent.mode term name None (scope_at ns n) ≡ given_pair (set_of c) parent term (head_at (set_of c) ns n)
  untyped-read ns n name name-is untyped parent term =
      let none : None ≡ (head_at (set_of c) ns n).xsi = sym untyped in
      λ i. govern_child (names_is i) (parts_is i) parent.mode term (name-is i) (none i) (scope_at ns n)

  module _ (ns : Nodes) (n : ℕ) (h : ElementHead) (name : h.name ≡ name_at ns n) (attrs : h.attrs ≡ texts_named ns n) (scope : h.scope ≡ scope_at ns n) (xsi : Option (List ℕ))
      (said : xsi ≡ (head_by c.names h).xsi) where
    xsi-is : xsi ≡ (head_at (set_of c) ns n).xsi
    xsi-is = said ∙ ap (λ l. instance_text c.names l TypeName) attrs

    pub root-read : govern_root names parts h.name xsi h.scope ≡ root_pair (set_of c) (head_at (set_of c) ns n)
    root-read = λ i. govern_root (names_is i) (parts_is i) (name i) (xsi-is i) (scope i)

    pub child-read : (parent : Governing) (term : Option ℕ) → govern_child names parts parent.mode term h.name xsi h.scope ≡ given_pair (set_of c) parent term (head_at (set_of c) ns n)
    child-read parent term = λ i. govern_child (names_is i) (parts_is i) parent.mode term (name i) (xsi-is i) (scope i)

    pub again-read : (was : Governing) → regoverned names parts was xsi h.scope ≡ again_pair (set_of c) was (head_at (set_of c) ns n)
    again-read was = λ i. regoverned (names_is i) (parts_is i) was (xsi-is i) (scope i)

-- ---- it may govern

is-skip : Mode → Bool
is-skip Strict = false
is-skip Lax = false
is-skip Skip = true

not-strict : Strict ≡ Skip → ⊥
unfolding is-skip
not-strict e = true≢false (sym (ap is-skip e))

not-lax : Lax ≡ Skip → ⊥
unfolding is-skip
not-lax e = true≢false (sym (ap is-skip e))

-- there is no type exactly where the element is skipped
typed : (names : NameTable) (t : Tables) (mode : Mode) (declaration : Option ℕ) (xsi : Option (List ℕ)) (scope : List (List ℕ × ℕ)) →
    ((governed names t mode declaration xsi scope).of ≡ None) ↔ ((governed names t mode declaration xsi scope).mode ≡ Skip)
typed names t Strict declaration xsi scope = ((λ e. absurd (none-some _ (sym e))), λ e. absurd (not-strict e))
typed names t Lax declaration xsi scope = ((λ e. absurd (none-some _ (sym e))), λ e. absurd (not-lax e))
typed names t Skip declaration xsi scope = ((λ e. refl), λ e. refl)

module _ (c : Compiled) (usable : IsUsable c) (h : Head) where
  pub root-can : CanGovern c.parts (root_pair (set_of c) h)
  root-can = record { there = root-there c.names c.parts c.declarations c.named usable.view h.name h.xsi h.scope; typed = typed c.names c.parts Strict _ h.xsi h.scope }

  pub given-can : (parent : Governing) (term : Option ℕ) → CanGovern c.parts (given_pair (set_of c) parent term h)
  given-can parent term = record {
    there = child-there c.names c.parts c.declarations c.named usable.view parent.mode term h.name h.xsi h.scope;
    typed = typed c.names c.parts (child_mode parent.mode (accepting_particle c.parts term)) (particle_declaration c.parts h.name (accepting_particle c.parts term)) h.xsi h.scope;
  }
