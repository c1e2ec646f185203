-- Numbers that stay as a table grows.
use Rattle.std.proofs.Common.{◌≡◌, ℕ, Bool, true, false, List, Option, None, Some, Result, Ok, Err, if◌then◌else◌, refl, sym, ap, subst, ◌∙◌}
use Rattle.std.specs.Prelude.{IfOk}
use Rattle.std.specs.Option.{unwrap_or}
use Rattle.tree_rows.specs.declared.name.Expanded.{Expanded}
use Rattle.xs_names.specs.Names.{NameTable, Grown, absent_space, space_number, name_number}
use Rattle.xs_names.proofs.GrownLaws.{Grown-trans, space_number-Grown, name_number-Grown}
use Rattle.representations.specs.declared.naming.Naming.{Naming}
use Rattle.representations.specs.Naming.{space_text, name_in, declared_number, referred_space, IsSpaceNumber, IsNumber, IsDeclared, IsReferred}

pub space-later : (one : NameTable) (space : Option (List ℕ)) (text : List ℕ) (ns : ℕ) → text ≡ space_text space → space_number one text ≡ Some ns → IsSpaceNumber one space ns
space-later one space text ns same s = λ later g.
    let found = space_number-Grown one later g (space_text space) ns (subst (λ (l : List ℕ). space_number one l ≡ Some ns) same s) in
    sym (ap (λ (o : Option ℕ). unwrap_or o absent_space) found)

pub number-later : (one two : NameTable) (space : Option (List ℕ)) (text word local : List ℕ) (ns n : ℕ) → text ≡ space_text space → word ≡ local → space_number one text ≡ Some ns → Grown one two → name_number two ns word ≡ Some n → IsNumber two space local n
number-later one two space text word local ns n same spelled s g m = λ later h.
    let found = space_number-Grown one later (Grown-trans one two later g h) (space_text space) ns (subst (λ (l : List ℕ). space_number one l ≡ Some ns) same s) in
    let named = name_number-Grown two later h ns local n (subst (λ (l : List ℕ). name_number two ns l ≡ Some n) spelled m) in
    sym (ap (λ (o : Option ℕ). unwrap_or (name_number later (unwrap_or o absent_space) local) 0) found ∙ ap (λ (o : Option ℕ). unwrap_or o 0) named)

module _ (t : NameTable) (naming : Naming) where
  -- a declaration in the target namespace, and one in none
  pub declared-in : (in_target : Bool) (local : Option (List ℕ)) (text : List ℕ) (n : ℕ) → local ≡ Some text → in_target ≡ true → IsNumber t naming.target text n → IsDeclared t naming in_target local (Some n)
  declared-in in_target local text n l b num = λ later g.
      ap Some (num later g) ∙ sym (ap (λ c. declared_number later naming c local) b ∙ ap (declared_number later naming true) l)

  pub declared-out : (in_target : Bool) (local : Option (List ℕ)) (text : List ℕ) (n : ℕ) → local ≡ Some text → in_target ≡ false → IsNumber t None text n → IsDeclared t naming in_target local (Some n)
  declared-out in_target local text n l b num = λ later g.
      ap Some (num later g) ∙ sym (ap (λ c. declared_number later naming c local) b ∙ ap (declared_number later naming false) l)

  -- a name that is referred to, by the namespace that is meant
  referred : (name : Expanded) (space : Option (List ℕ)) → referred_space naming name.namespace ≡ space → (n : ℕ) → IsNumber t space name.local n → IsReferred t naming name n
  referred name space e n num = λ later g. num later g ∙ sym (ap (λ s. name_in later s name.local) e)

  each : {E : Type 0} (P Q : ℕ → Type 0) → ((n : ℕ) → P n → Q n) → (r : Result ℕ E) → IfOk r P → IfOk r Q
  each P Q f (Ok n) p = f n p
  each P Q f (Err e) p = tt

  module _ {E : Type 0} (name : Expanded) (r : Result ℕ E) where
    pub referred-own : (s : List ℕ) → name.namespace ≡ Some s → IfOk r (IsNumber t name.namespace name.local) → IfOk r (IsReferred t naming name)
    referred-own s l = each (IsNumber t name.namespace name.local) (IsReferred t naming name) (referred name name.namespace (ap (referred_space naming) l ∙ sym l)) r

    pub referred-adopted : name.namespace ≡ None → naming.adopts ≡ true → IfOk r (IsNumber t naming.target name.local) → IfOk r (IsReferred t naming name)
    referred-adopted l a = each (IsNumber t naming.target name.local) (IsReferred t naming name)
        (referred name naming.target (ap (referred_space naming) l ∙ ap (λ b. if b then naming.target else None) a)) r

    pub referred-plain : name.namespace ≡ None → naming.adopts ≡ false → IfOk r (IsNumber t None name.local) → IfOk r (IsReferred t naming name)
    referred-plain l a = each (IsNumber t None name.local) (IsReferred t naming name)
        (referred name None (ap (referred_space naming) l ∙ ap (λ b. if b then naming.target else None) a)) r
