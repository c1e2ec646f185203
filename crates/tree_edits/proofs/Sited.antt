-- A node that was taken out is put back where it stood.
use Rattle.std.proofs.Common.{◌≡◌, ◌⊎◌, inl, inr, ℕ, ◌+◌, ◌-◌, ◌≤◌, List, Bool, true, false, ◌==◌, ◌||◌, Some, refl, sym, ap, ◌∙◌, arith, subst}
use Rattle.std.specs.Prelude.{if◌then◌else◌}
use Rattle.std.proofs.lemmas.Bool.{or_parts, or_left, or_right, eq-eqb, ne_eqb, false≢true, true≢false}
use Rattle.tree_rows.specs.Forest.{Forest, none, text, element}
use Rattle.tree_rows.specs.Whole.{times}
use Rattle.tree_rows.specs.declared.name.Expanded.{Expanded}
use Rattle.tree_rows.specs.declared.row.Attribute.{Attribute}
use Rattle.tree_rows.specs.declared.row.Binding.{Binding}
use Rattle.tree_edits.specs.Edits.{append, has, Found, found, replaced, insert_at, with_children, width}
use Rattle.tree_edits.proofs.Lying.{Lies, append-none}
use Rattle.tree_edits.specs.Sites.{Site, site_in}
use Rattle.tree_edits.proofs.Twice.{gone, found_past_text, found_below, found_past, past_text, below_element, past_element, has_times, absent, own_one}

-- the site of a node, by where it lies
site_text : (key parent place n : ℕ) (chars : List ℕ) (next : Forest) → (n == key) ≡ false → site_in key parent place (text n chars next) ≡ site_in key parent (place + 1) next
site_text key parent place n chars next e = rw e refl

pub site_below : (key parent place n : ℕ) (name : Expanded) (bindings : List Binding) (attributes : List Attribute) (children next : Forest) → (n == key) ≡ false → has key children ≡ true
    → site_in key parent place (element n name bindings attributes children next) ≡ site_in key n 0 children
site_below key parent place n name bindings attributes children next e h = rw (e, h) refl

site_past : (key parent place n : ℕ) (name : Expanded) (bindings : List Binding) (attributes : List Attribute) (children next : Forest) → (n == key) ≡ false → has key children ≡ false
    → site_in key parent place (element n name bindings attributes children next) ≡ site_in key parent (place + 1) next
site_past key parent place n name bindings attributes children next e h = rw (e, h) refl

abbrev pub parent_in : ℕ → ℕ → ℕ → Forest → ℕ
parent_in key parent place f = (site_in key parent place f).parent

site_text_here : (key parent place n : ℕ) (chars : List ℕ) (next : Forest) → (n == key) ≡ true → site_in key parent place (text n chars next) ≡ record { parent = parent; place = place }
site_text_here key parent place n chars next e = rw e refl

site_here : (key parent place n : ℕ) (name : Expanded) (bindings : List Binding) (attributes : List Attribute) (children next : Forest) → (n == key) ≡ true
    → site_in key parent place (element n name bindings attributes children next) ≡ record { parent = parent; place = place }
site_here key parent place n name bindings attributes children next e = rw e refl

-- the parent of a node is the one above the siblings, or one of the nodes
abbrev pub AboveOrAmong : ℕ → Forest → Site → Type 0
AboveOrAmong parent f s = (s.parent ≡ parent) ⊎ (has s.parent f ≡ true)

pub above_or_among : (key parent place depth : ℕ) (f : Forest) (it : Found) → Lies key depth f it → AboveOrAmong parent f (site_in key parent place f)
above_or_among key parent place depth none it l = absurd l
above_or_among key parent place depth (text n chars next) it (inl l) =
    subst (AboveOrAmong parent (text n chars next)) (sym (site_text_here key parent place n chars next l.0)) (inl refl)
above_or_among key parent place depth (text n chars next) it (inr l) =
    subst (AboveOrAmong parent (text n chars next)) (sym (site_text key parent place n chars next l.0)) (elim (above_or_among key parent (place + 1) depth next it l.1) [
      | inl e ↦ inl e
      | inr h ↦ inr (or_right (n == parent_in key parent (place + 1) next) (has (parent_in key parent (place + 1) next) next) h)
    ])
above_or_among key parent place depth (element n name bindings attributes children next) it (inl l) =
    subst (AboveOrAmong parent (element n name bindings attributes children next)) (sym (site_here key parent place n name bindings attributes children next l.0)) (inl refl)
above_or_among key parent place depth (element n name bindings attributes children next) it (inr (inl l)) =
    let q = parent_in key n 0 children in
    subst (AboveOrAmong parent (element n name bindings attributes children next)) (sym (site_below key parent place n name bindings attributes children next l.0 l.1))
    (inr (elim (above_or_among key n 0 (depth + 1) children it l.2) [
      | inl e ↦ or_left (n == q) (has q children || has q next) (eq-eqb n q (sym e))
      | inr h ↦ or_right (n == q) (has q children || has q next) (or_left (has q children) (has q next) h)
    ]))
above_or_among key parent place depth (element n name bindings attributes children next) it (inr (inr l)) =
    let q = parent_in key parent (place + 1) next in
    subst (AboveOrAmong parent (element n name bindings attributes children next)) (sym (site_past key parent place n name bindings attributes children next l.0 l.1))
    (elim (above_or_among key parent (place + 1) depth next it l.2) [
      | inl e ↦ inl e
      | inr h ↦ inr (or_right (n == q) (has q children || has q next) (or_right (has q children) (has q next) h))
    ])

-- siblings at a place
insert_first : (one f : Forest) → insert_at 0 one f ≡ append one f
insert_first one none = sym (append-none one)
insert_first one (text n chars next) = refl
insert_first one (element n name bindings attributes children next) = refl

not_first : (i : ℕ) → ((i + 1) == 0) ≡ false
not_first i = ne_eqb (i + 1) 0 (omega arith)

insert_past_text : (i n : ℕ) (chars : List ℕ) (one next : Forest) → insert_at (i + 1) one (text n chars next) ≡ text n chars (insert_at i one next)
insert_past_text i n chars one next =
    let e : i + 1 - 1 ≡ i = omega arith in
    ap (λ b. if b then append one (text n chars next) else text n chars (insert_at (i + 1 - 1) one next)) (not_first i) ∙ ap (λ j. text n chars (insert_at j one next)) e

insert_past_element : (i n : ℕ) (name : Expanded) (bindings : List Binding) (attributes : List Attribute) (children one next : Forest)
    → insert_at (i + 1) one (element n name bindings attributes children next) ≡ element n name bindings attributes children (insert_at i one next)
insert_past_element i n name bindings attributes children one next =
    let e : i + 1 - 1 ≡ i = omega arith in
    ap (λ b. if b then append one (element n name bindings attributes children next) else element n name bindings attributes children (insert_at (i + 1 - 1) one next)) (not_first i)
    ∙ ap (λ j. element n name bindings attributes children (insert_at j one next)) e

-- one of the siblings was taken out
pub record Again (key parent place depth : ℕ) (f : Forest) (it : Found) : Type 0 where
  pub at : ℕ
  pub place_is : (site_in key parent place f).place ≡ place + at
  pub put : insert_at at it.node (replaced key gone f) ≡ f
  pub within : at ≤ width (replaced key gone f)
  pub level : it.depth ≡ depth

among : (key parent place depth : ℕ) (f : Forest) (it : Found) → Lies key depth f it → has parent f ≡ false → parent_in key parent place f ≡ parent → Again key parent place depth f it
among key parent place depth none it l o e = absurd l
among key parent place depth (text n chars next) it (inl l) o e = record {
  at = 0;
  place_is = ap (λ (x : Site). x.place) (site_text_here key parent place n chars next l.0) ∙ omega arith;
  put = ap (λ (i : Found). insert_at 0 i.node (replaced key gone (text n chars next))) l.1 ∙ rw (l.0) (insert_first (text n chars none) next);
  within = omega arith;
  level = ap (λ (i : Found). i.depth) l.1;
}
among key parent place depth (text n chars next) it (inr l) o e =
    let s = site_text key parent place n chars next l.0 in
    let r = among key parent (place + 1) depth next it l.1 (or_parts (n == parent) (has parent next) o).1 (sym (ap (λ (x : Site). x.parent) s) ∙ e) in
    record {
      at = r.at + 1;
      place_is = ap (λ (x : Site). x.place) s ∙ r.place_is ∙ omega arith;
      put = ap (insert_at (r.at + 1) it.node) (past_text key gone n chars next l.0) ∙ insert_past_text r.at n chars it.node (replaced key gone next) ∙ ap (text n chars) r.put;
      within = (let e = ap width (past_text key gone n chars next l.0) in let w = r.within in omega (arith, e, w));
      level = r.level;
    }
among key parent place depth (element n name bindings attributes children next) it (inl l) o e = record {
  at = 0;
  place_is = ap (λ (x : Site). x.place) (site_here key parent place n name bindings attributes children next l.0) ∙ omega arith;
  put = ap (λ (i : Found). insert_at 0 i.node (replaced key gone (element n name bindings attributes children next))) l.1 ∙ rw (l.0) (insert_first (element n name bindings attributes children none) next);
  within = omega arith;
  level = ap (λ (i : Found). i.depth) l.1;
}
among key parent place depth (element n name bindings attributes children next) it (inr (inl l)) o e =
    let s = site_below key parent place n name bindings attributes children next l.0 l.1 in
    let q = sym (ap (λ (x : Site). x.parent) s) ∙ e in
    let z = or_parts (n == parent) (has parent children || has parent next) o in
    let y = or_parts (has parent children) (has parent next) z.1 in
    absurd (elim (above_or_among key n 0 (depth + 1) children it l.2) [
      | inl k ↦ true≢false (sym (eq-eqb n parent (sym k ∙ q)) ∙ z.0)
      | inr h ↦ false≢true (sym y.0 ∙ sym (ap (λ m. has m children) q) ∙ h)
    ])
among key parent place depth (element n name bindings attributes children next) it (inr (inr l)) o e =
    let s = site_past key parent place n name bindings attributes children next l.0 l.1 in
    let z = or_parts (n == parent) (has parent children || has parent next) o in
    let y = or_parts (has parent children) (has parent next) z.1 in
    let r = among key parent (place + 1) depth next it l.2 y.1 (sym (ap (λ (x : Site). x.parent) s) ∙ e) in
    record {
      at = r.at + 1;
      place_is = ap (λ (x : Site). x.place) s ∙ r.place_is ∙ omega arith;
      put = ap (insert_at (r.at + 1) it.node) (past_element key gone n name bindings attributes children next l.0 l.1)
          ∙ insert_past_element r.at n name bindings attributes children it.node (replaced key gone next) ∙ ap (element n name bindings attributes children) r.put;
      within = (let e = ap width (past_element key gone n name bindings attributes children next l.0 l.1) in let w = r.within in omega (arith, e, w));
      level = r.level;
    }

-- the parent is one of the nodes, and stays where its child is taken out
pub record Restored (f : Forest) (key depth : ℕ) (it : Found) (site : Site) : Type 0 where
  pub stays : has site.parent (replaced key gone f) ≡ true
  pub put : replaced site.parent (with_children site.place it.node) (replaced key gone f) ≡ f
  pub up : ℕ
  pub name : Expanded
  pub bindings : List Binding
  pub attributes : List Attribute
  pub children : Forest
  pub is_found : found site.parent depth (replaced key gone f) ≡ Some (record { depth = up; node = element site.parent name bindings attributes children none })
  pub below : up + 1 ≡ it.depth
  pub within : site.place ≤ width children

head_not : (n q : ℕ) (f : Forest) → (if n == q then 1 else 0) + times q f ≤ 1 → has q f ≡ true → (n == q) ≡ false
head_not n q f o h = by (n == q) refl
  where
    by : (b : Bool) → (n == q) ≡ b → b ≡ false
    by true e = let x = has_times q f h in let one : ◌≡◌ {A = ℕ} (if n == q then 1 else 0) 1 = ap (λ c. if c then 1 else 0) e in absurd (omega (arith, x, one, o))
    by false e = refl

pub restored : (key parent place depth : ℕ) (f : Forest) (it : Found) → Lies key depth f it → ((m : ℕ) → times m f ≤ 1) → has parent f ≡ false
    → has (parent_in key parent place f) f ≡ true → Restored f key depth it (site_in key parent place f)
restored key parent place depth none it l d o h = absurd l
restored key parent place depth (text n chars next) it (inl l) d o h =
    absurd (false≢true (sym o ∙ sym (ap (λ (s : Site). has s.parent (text n chars next)) (site_text_here key parent place n chars next l.0)) ∙ h))
restored key parent place depth (text n chars next) it (inr l) d o h =
    let s = site_text key parent place n chars next l.0 in
    let q = parent_in key parent (place + 1) next in
    let g : has q (text n chars next) ≡ true = sym (ap (λ (x : Site). has x.parent (text n chars next)) s) ∙ h in
    let there : has q next ≡ true = elim (above_or_among key parent (place + 1) depth next it l.1) [
      | inl k ↦ absurd (false≢true (sym o ∙ sym (ap (λ m. has m (text n chars next)) k) ∙ g))
      | inr k ↦ k
    ] in
    let far = head_not n q next (d q) there in
    let r = restored key parent (place + 1) depth next it l.1 (λ m. let e = d m in omega (arith, e)) (or_parts (n == parent) (has parent next) o).1 there in
    subst (Restored (text n chars next) key depth it) (sym s) (record {
      stays = ap (has q) (past_text key gone n chars next l.0) ∙ or_right (n == q) (has q (replaced key gone next)) r.stays;
      put = let w = with_children (site_in key parent (place + 1) next).place it.node in
          ap (replaced q w) (past_text key gone n chars next l.0) ∙ past_text q w n chars (replaced key gone next) far ∙ ap (text n chars) r.put;
      up = r.up;
      name = r.name;
      bindings = r.bindings;
      attributes = r.attributes;
      children = r.children;
      is_found = ap (found q depth) (past_text key gone n chars next l.0) ∙ found_past_text q depth n chars (replaced key gone next) far ∙ r.is_found;
      below = r.below;
      within = r.within;
    })
restored key parent place depth (element n name bindings attributes children next) it (inl l) d o h =
    absurd (false≢true (sym o ∙ sym (ap (λ (s : Site). has s.parent (element n name bindings attributes children next)) (site_here key parent place n name bindings attributes children next l.0)) ∙ h))
restored key parent place depth (element n name bindings attributes children next) it (inr (inl l)) d o h =
    let s = site_below key parent place n name bindings attributes children next l.0 l.1 in
    subst (Restored (element n name bindings attributes children next) key depth it) (sym s)
    (elim (above_or_among key n 0 (depth + 1) children it l.2) [
      | inl k ↦ first k
      | inr k ↦ deep k (restored key n 0 (depth + 1) children it l.2 (λ m. let e = d m in omega (arith, e))
          (absent n children (let e = d n in let one = own_one n n refl in omega (arith, e, one))) k)
    ])
  where
    site : Site
    site = site_in key n 0 children

    outside : has n children ≡ false
    outside = absent n children (let e = d n in let one = own_one n n refl in omega (arith, e, one))

    taken : replaced key gone (element n name bindings attributes children next) ≡ element n name bindings attributes (replaced key gone children) next
    taken = below_element key gone n name bindings attributes children next l.0 l.1

    first : site.parent ≡ n → Restored (element n name bindings attributes children next) key depth it site
    first k =
        let a = among key n 0 (depth + 1) children it l.2 outside k in
        let own : (n == site.parent) ≡ true = eq-eqb n site.parent (sym k) in
        let w = with_children site.place it.node in
        let at : site.place ≡ a.at = a.place_is ∙ omega arith in
        record {
          stays = ap (has site.parent) taken ∙ or_left (n == site.parent) (has site.parent (replaced key gone children) || has site.parent next) own;
          put = ap (replaced site.parent w) taken
              ∙ ap (λ b. if b then element n name bindings attributes (insert_at site.place it.node (replaced key gone children)) next
              else (if has site.parent (replaced key gone children) then element n name bindings attributes (replaced site.parent w (replaced key gone children)) next
              else element n name bindings attributes (replaced key gone children) (replaced site.parent w next))) own
              ∙ ap (λ j. element n name bindings attributes (insert_at j it.node (replaced key gone children)) next) at
              ∙ ap (λ g. element n name bindings attributes g next) a.put;
          up = depth;
          name = name;
          bindings = bindings;
          attributes = attributes;
          children = replaced key gone children;
          is_found = ap (found site.parent depth) taken
              ∙ ap (λ b. if b then Some (record { depth = depth; node = element n name bindings attributes (replaced key gone children) none })
              else (if has site.parent (replaced key gone children) then found site.parent (depth + 1) (replaced key gone children) else found site.parent depth next)) own
              ∙ ap (λ m. Some (record { depth = depth; node = element m name bindings attributes (replaced key gone children) none })) (sym k);
          below = sym a.level;
          within = (let w = a.within in omega (arith, w, at));
        }

    deep : has site.parent children ≡ true → Restored children key (depth + 1) it site → Restored (element n name bindings attributes children next) key depth it site
    deep k r =
        let far = head_not n site.parent children (let e = d site.parent in omega (arith, e)) k in
        let w = with_children site.place it.node in
        record {
          stays = ap (has site.parent) taken
              ∙ or_right (n == site.parent) (has site.parent (replaced key gone children) || has site.parent next) (or_left (has site.parent (replaced key gone children)) (has site.parent next) r.stays);
          put = ap (replaced site.parent w) taken ∙ below_element site.parent w n name bindings attributes (replaced key gone children) next far r.stays
              ∙ ap (λ g. element n name bindings attributes g next) r.put;
          up = r.up;
          name = r.name;
          bindings = r.bindings;
          attributes = r.attributes;
          children = r.children;
          is_found = ap (found site.parent depth) taken ∙ found_below site.parent depth n name bindings attributes (replaced key gone children) next far r.stays ∙ r.is_found;
          below = r.below;
          within = r.within;
        }
restored key parent place depth (element n name bindings attributes children next) it (inr (inr l)) d o h =
    let s = site_past key parent place n name bindings attributes children next l.0 l.1 in
    let q = parent_in key parent (place + 1) next in
    let g : has q (element n name bindings attributes children next) ≡ true = sym (ap (λ (x : Site). has x.parent (element n name bindings attributes children next)) s) ∙ h in
    let there : has q next ≡ true = elim (above_or_among key parent (place + 1) depth next it l.2) [
      | inl k ↦ absurd (false≢true (sym o ∙ sym (ap (λ m. has m (element n name bindings attributes children next)) k) ∙ g))
      | inr k ↦ k
    ] in
    let many = has_times q next there in
    let far = head_not n q next (let e = d q in omega (arith, e)) there in
    let out : has q children ≡ false = absent q children (let e = d q in omega (arith, e, many)) in
    let z = or_parts (n == parent) (has parent children || has parent next) o in
    let y = or_parts (has parent children) (has parent next) z.1 in
    let r = restored key parent (place + 1) depth next it l.2 (λ m. let e = d m in omega (arith, e)) y.1 there in
    subst (Restored (element n name bindings attributes children next) key depth it) (sym s) (record {
      stays = ap (has q) (past_element key gone n name bindings attributes children next l.0 l.1)
          ∙ or_right (n == q) (has q children || has q (replaced key gone next)) (or_right (has q children) (has q (replaced key gone next)) r.stays);
      put = let w = with_children (site_in key parent (place + 1) next).place it.node in
          ap (replaced q w) (past_element key gone n name bindings attributes children next l.0 l.1)
          ∙ past_element q w n name bindings attributes children (replaced key gone next) far out ∙ ap (element n name bindings attributes children) r.put;
      up = r.up;
      name = r.name;
      bindings = r.bindings;
      attributes = r.attributes;
      children = r.children;
      is_found = ap (found q depth) (past_element key gone n name bindings attributes children next l.0 l.1) ∙ found_past q depth n name bindings attributes children (replaced key gone next) far out ∙ r.is_found;
      below = r.below;
      within = r.within;
    })
