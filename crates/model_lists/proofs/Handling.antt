-- Lists under handles, through a change of one of them.
use Rattle.std.proofs.Common.{◌≡◌, ◌≢◌, ℕ, zero, suc, ◌<◌, List, [], ◌∷◌, Option, None, Some, length, set, get_or, slice_get, refl, sym, ap, subst, ◌∙◌, inl, inr, arith}
use Rattle.std.proofs.lemmas.Bool.{cases_eq}
use Rattle.std.proofs.lemmas.Option.{slice_get_within, slice_get-get_or, same_Some, none-some}
use Rattle.child_trees.specs.Lists.{get, IsLive as IsLiveIn}
use Rattle.content_models.specs.declared.automaton.ContentAutomaton.{ContentAutomaton}
use Rattle.model_lists.specs.declared.handle.ModelList.{ModelList}
use Rattle.model_lists.specs.Lists.{RowLists, MemberLists, ListsView, IsRowList, IsMemberList, IsListIn, IsListOf, IsLive, KeepLists}
use Rattle.model_lists.specs.Inside.{KeepsOthers, KeepsLive, AreShaped, GrowTo}
use Rattle.model_lists.proofs.RowKeeping.{row-live, row-kept, row-many}
use Rattle.model_lists.proofs.MemberKeeping.{member-live, member-kept, member-many}

abbrev pub view : List RowLists → MemberLists → ListsView
view R A = record { rows = R; alls = A }

abbrev pub row_handle : ℕ → ℕ → ModelList
row_handle dead list = record { dead = Some dead; list = list }

abbrev pub member_handle : ℕ → ModelList
member_handle list = record { dead = None; list = list }

handle-is : (h : ModelList) (o : Option ℕ) → h.dead ≡ o → h ≡ record { dead = o; list = h.list }
handle-is h o e = λ i. record { dead = e i; list = h.list }

-- the length of a vector is that of its items
pub as-many : (d n m : ℕ) → n ≡ m → d < m → d < n
as-many d n m e l = omega arith

-- ---- what is written is there
get-set : {X : Type 0} (xs : List X) (i : ℕ) (x : X) → i < length xs → slice_get (set xs i x) i ≡ Some x
get-set [] i x l = absurd (omega arith)
get-set (y ∷ xs) zero x l = refl
get-set (y ∷ xs) (suc i) x l = get-set xs i x (omega arith)

get-set_other : {X : Type 0} (xs : List X) (i j : ℕ) (x : X) → j ≢ i → slice_get (set xs i x) j ≡ slice_get xs j
get-set_other [] i j x d = refl
get-set_other (y ∷ xs) zero zero x d = absurd (d refl)
get-set_other (y ∷ xs) zero (suc j) x d = refl
get-set_other (y ∷ xs) (suc i) zero x d = refl
get-set_other (y ∷ xs) (suc i) (suc j) x d = get-set_other xs i j x (λ e. d (ap suc e))

set-same : {X : Type 0} (xs : List X) (i : ℕ) (x : X) → slice_get xs i ≡ Some x → set xs i x ≡ xs
set-same [] i x h = refl
set-same (y ∷ xs) zero x h = ap (λ z. z ∷ xs) (sym (same_Some y x h))
set-same (y ∷ xs) (suc i) x h = ap (λ ys. y ∷ ys) (set-same xs i x h)

-- ---- lists of rows of one width
module _ (R : List RowLists) (A : MemberLists) (dead : ℕ) (L L' : RowLists) (there : slice_get R dead ≡ Some L) where
  abbrev after : ListsView
  after = view (set R dead L') A

  pub now-there : slice_get (set R dead L') dead ≡ Some L'
  now-there = get-set R dead L' (slice_get_within R dead L there)

  pub row-lists : (list : ℕ) (a : ContentAutomaton) (symbols : List ℕ) → IsRowList L' list a symbols → IsListIn after (Some dead) list a symbols
  row-lists list a symbols h = (L', now-there, h)

  module _ (but : ModelList → Type 0) (same : (q : ℕ) → IsLiveIn L q → ¬ but (row_handle dead q) → get L' q ≡ get L q) (shape : L'.shape ≡ L.shape) where
    rows-kept : (o : Option ℕ) (q : ℕ) (a : ContentAutomaton) (symbols : List ℕ) → ¬ but (record { dead = o; list = q }) → IsListIn (view R A) o q a symbols → IsListIn after o q a symbols
    rows-kept (Some d) q a symbols out (lists, here, h) = elim (cases_eq d dead) [
      | inl e ↦ (
          let was : lists ≡ L = same_Some lists L (sym here ∙ (ap (slice_get R) e ∙ there)) in
          let own : IsRowList L q a symbols = subst (λ (l : RowLists). IsRowList l q a symbols) was h in
          let live = row-live L q a symbols own in
          let other : ¬ but (row_handle dead q) = λ b. out (subst (λ d. but (row_handle d q)) (sym e) b) in
          (L', ap (slice_get (set R dead L')) e ∙ now-there, row-kept L q L' (same q (live.0, live.1) other) shape a symbols own))
      | inr d ↦ (lists, get-set_other R dead _ L' d ∙ here, h)
    ]
    rows-kept None q a symbols out h = h

    pub rows-frame : KeepLists (view R A) after but
    rows-frame g a symbols out h = rows-kept g.dead g.list a symbols out h

  pub rows-shaped : L'.shape ≡ L.shape → AreShaped R → AreShaped (set R dead L')
  rows-shaped e shaped d lists h = elim (cases_eq d dead) [
    | inl same ↦ (
        let is : lists ≡ L' = same_Some lists L' (sym h ∙ (ap (slice_get (set R dead L')) same ∙ now-there)) in
        ap (λ (l : RowLists). l.shape) is ∙ (e ∙ (shaped dead L there ∙ ap suc (sym same))))
    | inr other ↦ shaped d lists (sym (get-set_other R dead d L' other) ∙ h)
  ]

-- ---- a list of rows under its handle
module _ (R : List RowLists) (A : MemberLists) (h : ModelList) (dead : ℕ) (is : h.dead ≡ Some dead) where
  in-rows : (a : ContentAutomaton) (symbols : List ℕ) → IsListOf (view R A) h a symbols → IsListIn (view R A) (Some dead) h.list a symbols
  in-rows a symbols l = subst (λ (o : Option ℕ). IsListIn (view R A) o h.list a symbols) is l

  pub row-in : (a : ContentAutomaton) (symbols : List ℕ) → IsListOf (view R A) h a symbols → dead < length R
  row-in a symbols l = let own = in-rows a symbols l in slice_get_within R dead own.0 own.1

  module _ (L : RowLists) (at : L ≡ get_or R dead L) where
    there : dead < length R → slice_get R dead ≡ Some L
    there l = slice_get-get_or R dead L l ∙ ap Some (sym at)

    pub row-of : (a : ContentAutomaton) (symbols : List ℕ) → IsListOf (view R A) h a symbols → IsRowList L h.list a symbols
    row-of a symbols l =
        let own = in-rows a symbols l in
        let same : own.0 ≡ L = same_Some own.0 L (sym own.1 ∙ there (row-in a symbols l)) in
        subst (λ (l : RowLists). IsRowList l h.list a symbols) same own.2

    module _ (L' : RowLists) (within : dead < length R) where
      pub row-shaped : L'.shape ≡ L.shape → AreShaped R → AreShaped (set R dead L')
      row-shaped e shaped = rows-shaped R A dead L L' (there within) e shaped

      pub row-now : (a : ContentAutomaton) (symbols : List ℕ) → IsRowList L' h.list a symbols → IsListOf (view (set R dead L') A) h a symbols
      row-now a symbols own = subst (λ (o : Option ℕ). IsListIn (view (set R dead L') A) o h.list a symbols) (sym is) (row-lists R A dead L L' (there within) h.list a symbols own)

      pub row-frame : KeepsOthers L L' h.list → KeepLists (view R A) (view (set R dead L') A) (λ g. g ≡ h)
      row-frame o = rows-frame R A dead L L' (there within) (λ g. g ≡ h)
          (λ q live out. o.others q (λ e. out (ap (row_handle dead) e ∙ sym (handle-is h (Some dead) is)))) o.shape

      pub row-same : L' ≡ L → view (set R dead L') A ≡ view R A
      row-same e = ap (λ rows. view rows A) (ap (set R dead) e ∙ set-same R dead L (there within))

      pub row-gone : get L' h.list ≡ None → IsLive (view (set R dead L') A) h → ⊥
      row-gone e (a, symbols, l) =
          let own = subst (λ (o : Option ℕ). IsListIn (view (set R dead L') A) o h.list a symbols) is l in
          let same : own.0 ≡ L' = same_Some own.0 L' (sym own.1 ∙ now-there R A dead L L' (there within)) in
          let live = row-live L' h.list a symbols (subst (λ (l : RowLists). IsRowList l h.list a symbols) same own.2) in
          none-some live.0 (sym e ∙ live.1)

-- ---- a new list of rows
module _ (R G : List RowLists) (A : MemberLists) (grown : GrowTo R G) where
  grown-kept : (o : Option ℕ) (q : ℕ) (a : ContentAutomaton) (symbols : List ℕ) → IsListIn (view R A) o q a symbols → IsListIn (view G A) o q a symbols
  grown-kept (Some d) q a symbols (lists, here, h) = (lists, grown d (slice_get_within R d lists here) ∙ here, h)
  grown-kept None q a symbols h = h

  pub grown-frame : KeepLists (view R A) (view G A) (λ _. ⊥)
  grown-frame g a symbols out h = grown-kept g.dead g.list a symbols h

  module _ (dead list : ℕ) (L L' : RowLists) (at : L ≡ get_or G dead L) (within : dead < length G) where
    now : slice_get G dead ≡ Some L
    now = slice_get-get_or G dead L within ∙ ap Some (sym at)

    pub made-shape : AreShaped G → L.shape ≡ suc dead
    made-shape shaped = shaped dead L now

    pub made-shaped : L'.shape ≡ L.shape → AreShaped G → AreShaped (set G dead L')
    made-shaped e shaped = rows-shaped G A dead L L' now e shaped

    pub made-fresh : (IsLiveIn L list → ⊥) → IsLive (view R A) (row_handle dead list) → ⊥
    made-fresh fresh (a, symbols, own) =
        let lists : RowLists = own.0 in
        let here : slice_get R dead ≡ Some lists = own.1 in
        let h : IsRowList lists list a symbols = own.2 in
        let same : lists ≡ L = same_Some lists L (sym here ∙ (sym (grown dead (slice_get_within R dead lists here)) ∙ now)) in
        let live = row-live L list a symbols (subst (λ (l : RowLists). IsRowList l list a symbols) same h) in
        fresh (live.0, live.1)

    pub made-list : (a : ContentAutomaton) (symbols : List ℕ) → IsRowList L' list a symbols → IsListOf (view (set G dead L') A) (row_handle dead list) a symbols
    made-list a symbols h = row-lists G A dead L L' now list a symbols h

    pub made-frame : KeepsLive L L' → KeepLists (view R A) (view (set G dead L') A) (λ _. ⊥)
    made-frame keep g a symbols out h =
        rows-frame G A dead L L' now (λ _. ⊥) (λ q live other. keep.lists q live) keep.shape g a symbols out (grown-frame g a symbols out h)

-- ---- lists of members
module _ (R : List RowLists) (A B : MemberLists) where
  module _ (but : ModelList → Type 0) (same : (q : ℕ) → IsLiveIn A q → ¬ but (member_handle q) → get B q ≡ get A q) where
    members-kept : (o : Option ℕ) (q : ℕ) (a : ContentAutomaton) (symbols : List ℕ) → ¬ but (record { dead = o; list = q }) → IsListIn (view R A) o q a symbols → IsListIn (view R B) o q a symbols
    members-kept (Some d) q a symbols out h = h
    members-kept None q a symbols out h = let live = member-live A q a symbols h in member-kept A q B (same q (live.0, live.1) out) a symbols h

    pub members-frame : KeepLists (view R A) (view R B) but
    members-frame g a symbols out h = members-kept g.dead g.list a symbols out h

  pub members-made : KeepsLive A B → KeepLists (view R A) (view R B) (λ _. ⊥)
  members-made keep = members-frame (λ _. ⊥) (λ q live other. keep.lists q live)

  pub members-fresh : (list : ℕ) → (IsLiveIn A list → ⊥) → IsLive (view R A) (member_handle list) → ⊥
  members-fresh list fresh (a, symbols, h) = let live = member-live A list a symbols h in fresh (live.0, live.1)

  module _ (h : ModelList) (is : h.dead ≡ None) where
    pub member-of : (a : ContentAutomaton) (symbols : List ℕ) → IsListOf (view R A) h a symbols → IsMemberList A h.list a symbols
    member-of a symbols l = subst (λ (o : Option ℕ). IsListIn (view R A) o h.list a symbols) is l

    pub member-now : (a : ContentAutomaton) (symbols : List ℕ) → IsMemberList B h.list a symbols → IsListOf (view R B) h a symbols
    member-now a symbols own = subst (λ (o : Option ℕ). IsListIn (view R B) o h.list a symbols) (sym is) own

    pub member-frame : KeepsOthers A B h.list → KeepLists (view R A) (view R B) (λ g. g ≡ h)
    member-frame o = members-frame (λ g. g ≡ h) (λ q live out. o.others q (λ e. out (ap member_handle e ∙ sym (handle-is h None is))))

    pub member-gone : get B h.list ≡ None → IsLive (view R B) h → ⊥
    member-gone e (a, symbols, l) =
        let live = member-live B h.list a symbols (subst (λ (o : Option ℕ). IsListIn (view R B) o h.list a symbols) is l) in
        none-some live.0 (sym e ∙ live.1)

-- ---- as many children, whatever their symbols
pub list-many : (v : ListsView) (o : Option ℕ) (list : ℕ) (a b : ContentAutomaton) (xs ys : List ℕ) → IsListIn v o list a xs → IsListIn v o list b ys → length xs ≡ length ys
list-many v (Some dead) list a b xs ys (lists, here, h) (others, there, l) =
    let same : others ≡ lists = same_Some others lists (sym there ∙ here) in
    let live = row-live lists list a xs h in
    sym live.2 ∙ row-many lists list b ys (subst (λ (r : RowLists). IsRowList r list b ys) same l) live.0 live.1
list-many v None list a b xs ys h l =
    let live = member-live v.alls list a xs h in
    sym live.2 ∙ member-many v.alls list b ys l live.0 live.1

-- ---- no lists
pub none-live : (R : List RowLists) (A : MemberLists) → R ≡ [] → ((q : ℕ) → get A q ≡ None) → (h : ModelList) → IsLive (view R A) h → ⊥
none-live R A empty gone h (a, symbols, is) = by h.dead is
  where
    by : (o : Option ℕ) → IsListIn (view R A) o h.list a symbols → ⊥
    by (Some dead) (lists, there, l) = none-some lists (sym (ap (λ (rows : List RowLists). slice_get rows dead) empty) ∙ there)
    by None l = let live = member-live A h.list a symbols l in none-some live.0 (sym (gone h.list) ∙ live.1)
