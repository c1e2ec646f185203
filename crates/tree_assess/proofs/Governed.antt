-- What governs an element, read off a view of the set.
use Rattle.std.proofs.Common.{◌≡◌, ℕ, List, Option, sym, ap, subst, ◌∙◌}
use Rattle.std.specs.Prelude.{IfOk, Result}
use Rattle.std.proofs.lemmas.Result.{IfOk-weaker}
use Rattle.xs_names.specs.Names.{NameTable}
use Rattle.xs_components.specs.Tables.{Tables}
use Rattle.elem_governing.specs.Governing.{govern_root, govern_child}
use Rattle.elem_governing.specs.declared.pairs.Governing.{Governing}
use Rattle.elem_governing.proofs.There.{root-there}
use Rattle.compiled_schema.specs.Usable.{IsUsable, set_of}
use Rattle.compiled_schema.specs.declared.compiled.Compiled.{Compiled}
use Rattle.assess_records.specs.Numbered.{Head}
use Rattle.elem_governing.specs.Heads.{head_by}
use Rattle.elem_governing.specs.declared.head.ElementHead.{ElementHead}
use Rattle.tree_assess.specs.inside.Steps.{IsThere, pair_of, root_pair_of}
use Rattle.tree_assess.proofs.Same.{names_same}

module _ {E : Type 0} (c : Compiled) (names : NameTable) (parts : Tables) (xsi : Option (List ℕ)) (names_is : names ≡ c.names) (parts_is : parts ≡ c.parts) (r : Result Governing E) where
  pub root_read : (h : ElementHead) → xsi ≡ (head_by c.names h).xsi → IfOk r (λ pair. pair ≡ govern_root names parts h.name xsi h.scope) → IfOk r (λ pair. pair ≡ root_pair_of (set_of c) (head_by c.names h))
  root_read h said =
      IfOk-weaker r _ _ (λ pair e. e ∙ ap (λ n. govern_root n parts h.name xsi h.scope) names_is ∙ ap (λ t. govern_root c.names t h.name xsi h.scope) parts_is
      ∙ ap (λ x. govern_root c.names c.parts h.name x h.scope) said)

  pub child_read : (h : ElementHead) (parent : Governing) (term : Option ℕ) → xsi ≡ (head_by c.names h).xsi → IfOk r (λ pair. pair ≡ govern_child names parts parent.mode term h.name xsi h.scope)
      → IfOk r (λ pair. pair ≡ pair_of (set_of c) parent term (head_by c.names h))
  child_read h parent term said =
      IfOk-weaker r _ _ (λ pair e. e ∙ ap (λ n. govern_child n parts parent.mode term h.name xsi h.scope) names_is ∙ ap (λ t. govern_child c.names t parent.mode term h.name xsi h.scope) parts_is
      ∙ ap (λ x. govern_child c.names c.parts parent.mode term h.name x h.scope) said)

pub root_there : {E : Type 0} (c : Compiled) (h : Head) (r : Result Governing E) → IsUsable c → IfOk r (λ pair. pair ≡ root_pair_of (set_of c) h) → IfOk r (IsThere c.parts)
root_there c h r usable = IfOk-weaker r _ _ (λ pair e. subst (IsThere c.parts) (sym e) (root-there c.names c.parts c.declarations c.named usable.view h.name h.xsi h.scope))

-- by a head that was read with the same names
module _ {E : Type 0} (c : Compiled) (names : NameTable) (same : names ≡ c.names) (h : ElementHead) (own : Head) (is : head_by c.names h ≡ own) (r : Result Governing E) where
  own_by : head_by names h ≡ own
  own_by = ap (λ n. head_by n h) same ∙ is

  pub root_by : IfOk r (λ pair. pair ≡ root_pair_of (set_of (record c { names = names })) (head_by names h)) → IfOk r (λ pair. pair ≡ root_pair_of (set_of c) own)
  root_by =
      IfOk-weaker r _ _ (λ pair e. e ∙ ap (root_pair_of (set_of (record c { names = names }))) own_by ∙ ap (λ d. root_pair_of (set_of d) own) (names_same c names same))

-- by a head of a child that was read with the same names
pub child_is : (c : Compiled) (names : NameTable) (same : names ≡ c.names) (h : ElementHead) (own : Head) → head_by c.names h ≡ own → (parent : Governing) (term : Option ℕ) (pair : Governing)
    → pair ≡ pair_of (set_of (record c { names = names })) parent term (head_by names h) → pair ≡ pair_of (set_of c) parent term own
child_is c names same h own is parent term pair e =
    e ∙ ap (pair_of (set_of (record c { names = names })) parent term) (ap (λ n. head_by n h) same ∙ is) ∙ ap (λ d. pair_of (set_of d) parent term own) (names_same c names same)
