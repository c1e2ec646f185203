-- The list that an author had seen, behind turns of which none came between.
use Rattle.std.proofs.Common.{◌≡◌, inl, inr, ℕ, ◌-◌, ◌^◌, ◌≤◌, ◌<◌, List, [], ◌∷◌, ◌++◌, length, length-append, Bool, true, false, not, ◌&&◌, ◌||◌, ◌==◌, nat_lt, cond, Option, Some, None, refl, sym, ap, ◌∙◌, subst, arith}
use Rattle.std.specs.Prelude.{All}
use Rattle.std.proofs.lemmas.Bool.{eqb-true, eq-eqb, false≢true}
use Rattle.std.proofs.lemmas.Bool.Decides.{nat_tests}
use Rattle.std.proofs.lemmas.List.Elements.{All-head, All-tail}
use Rattle.std.proofs.lemmas.Option.{none-some, same_Some}
use Rattle.tree_rows.specs.Kinds.{first_kind, kind_of}
use Rattle.tree_rows.specs.declared.row.NodeKind.{NodeKind}
use Rattle.tree_rows.specs.declared.row.NodeKind.TheVariants.{Element, Chars}
use Rattle.tree_rows.specs.declared.name.Expanded.{Expanded}
use Rattle.tree_rows.specs.declared.row.Attribute.{Attribute}
use Rattle.tree_rows.specs.declared.row.Binding.{Binding}
use Rattle.tree_rows.specs.Forest.{Forest, none, text, element}
use Rattle.tree_edits.specs.declared.edit.Edit.{Edit}
use Rattle.tree_edits.specs.declared.edit.Edit.TheVariants as edits
use Rattle.edit_script.specs.Commands.{IsReadyOr}
use Rattle.session_model.specs.State.{next_revision}
use Rattle.edit_history.specs.declared.turn.Turn.{Turn}
use Rattle.edit_history.specs.Turns.{turn, same_node, have_common, later, latest, is_unseen, stale}
use Rattle.edit_history.specs.declared.touched.Touched.{Touched}
use Rattle.edit_history.specs.Log.{Log}
use Rattle.told.specs.Told.{Said}
use Rattle.xsv_run.specs.from_open_document.State.{OpenState}
use Rattle.xsv_run.specs.from_open_document.Touches.{list_of, if_live, fault_by, stale_by, turn_fault}
use Rattle.xsv_run.specs.from_open_document.TurnFault.TheVariants.{BadRevision, Stale}
use Rattle.xsv_run.specs.Authors.{Read, AreAnswers}
use Rattle.turn_laws.specs.Lists.{Child, list_at}
use Rattle.turn_laws.specs.Own.{puts_into, list_of_children, IsListBehind, IsListBehindAll}
use Rattle.turn_laws.proofs.Along.{reply_so}
use Rattle.turn_laws.proofs.Lists.{IsListed, list_past, or_one}
use Rattle.turn_laws.proofs.Traced.{IsTraced, IsTurnTaken, IsMoved, is_or}

-- ---- what is not stale

-- none passes the test
later_some : (n : ℕ) (o : Option ℕ) → later (Some n) o ≡ None → ⊥
later_some n None e = none-some n (sym e)
later_some n (Some m) e = none-some _ (sym e)

abbrev head_test : (Turn → Bool) → Turn → List Turn → Bool → Option ℕ
head_test test t ts b = cond b (later (Some t.revision) (latest test ts)) (latest test ts)

passes_not : (test : Turn → Bool) (t : Turn) (ts : List Turn) → latest test (t ∷ ts) ≡ None → (test t ≡ false) × (latest test ts ≡ None)
passes_not test t ts e = by (test t) refl e
  where
    by : (b : Bool) → test t ≡ b → head_test test t ts b ≡ None → (test t ≡ false) × (latest test ts ≡ None)
    by true is h = absurd (later_some t.revision (latest test ts) h)
    by false is h = (is, h)

none_passes : (test : Turn → Bool) (before : List Turn) (t : Turn) (behind : List Turn) → latest test (before ++ t ∷ behind) ≡ None → test t ≡ false
none_passes test [] t behind e = (passes_not test t behind e).0
none_passes test (x ∷ before) t behind e = none_passes test before t behind (passes_not test x (before ++ t ∷ behind) e).1

none_common : (o : Option ℕ) → same_node o None ≡ false
none_common None = refl
none_common (Some n) = refl

module _ (author parent seen : ℕ) where
  abbrev pub unseen : Turn → Bool
  unseen t = is_unseen author seen (list_of parent) t

  -- a turn of another author behind the revision that was seen did not touch the list
  not_touched : (t : Turn) → unseen t ≡ false → seen < t.revision → (t.author == author) ≡ false → t.keys.list ≡ Some parent → ⊥
  not_touched t e late other has =
      let common : have_common t.keys (list_of parent) ≡ true =
      ap (λ (o : Option ℕ). same_node t.keys.node None || same_node o (Some parent)) has
      ∙ ap (λ (b : Bool). b || (parent == parent)) (none_common t.keys.node) ∙ eq-eqb parent parent refl in
      let after : nat_lt seen t.revision ≡ true = grind (arith, nat_tests, late) in
      let passes : unseen t ≡ true =
      (λ i. (not (other i) && common i) && after i) in
      false≢true (sym e ∙ passes)

-- ---- turns behind others

same_length : {X : Type 0} (xs : List X) (x : X) → xs ≡ xs ++ x ∷ [] → ⊥
same_length xs x e = let n = ap length e in let m = length-append xs (x ∷ []) in omega (arith, n, m)

push_one : {X : Type 0} (xs : List X) (x y : X) → xs ++ x ∷ [] ≡ xs ++ y ∷ [] → x ≡ y
push_one [] x y e = cc e
push_one (z ∷ xs) x y e = push_one xs x y (cc e)

append-assoc : {X : Type 0} (xs ys zs : List X) → (xs ++ ys) ++ zs ≡ xs ++ (ys ++ zs)
append-assoc [] ys zs = refl
append-assoc (x ∷ xs) ys zs = ap (λ (l : List _). x ∷ l) (append-assoc xs ys zs)

next_above : (n last : ℕ) → next_revision n ≤ last → last < 2 ^ 64 - 1 → n < next_revision n
next_above n last le few = grind (arith, le, few)

module _ (author parent : ℕ) where
  -- behind replies: more turns, and later revisions
  pub record IsBehind (s last : OpenState) : Type 0 where
    pub turns : List Turn
    pub turns_are : last.turns ≡ s.turns ++ turns
    pub later : s.session.revision ≤ last.session.revision

  joined_turns : (s next last : OpenState) (old new : List Child) → IsMoved parent s next old new → IsBehind next last → IsBehind s last
  joined_turns s next last old new moved behind = elim moved.by [
    | inl same ↦ record {
      turns = behind.turns;
      turns_are = behind.turns_are ∙ ap (λ (l : List Turn). l ++ behind.turns) same.0;
      later = (let a = moved.later in let b = behind.later in omega (arith, a, b));
    }
    | inr taken ↦ let t : Turn = turn (next_revision s.session.revision) taken.author taken.keys in record {
      turns = t ∷ behind.turns;
      turns_are = behind.turns_are ∙ ap (λ (l : List Turn). l ++ behind.turns) taken.turns_are ∙ append-assoc s.turns (t ∷ []) behind.turns;
      later = (let a = moved.later in let b = behind.later in omega (arith, a, b));
    }
  ]

  -- one reply
  module _ (s next last : OpenState) (old new : List Child) (moved : IsMoved parent s next old new) (behind : IsBehind next last) (seen : ℕ) (known : seen ≤ s.session.revision)
      (few : last.session.revision < 2 ^ 64 - 1) (fresh : latest (unseen author parent seen) last.turns ≡ None) (born : parent < s.session.document.next_free)
      (old_is : (l : List Child) → list_of_children s parent ≡ Some l → l ≡ old) (new_is : (l : List Child) → list_of_children next parent ≡ Some l → l ≡ new) where
    taken_so : IsTurnTaken parent s next old new → IsListBehind author parent s next old new
    taken_so taken = elim (is_or taken.keys.list parent) [
      | inl has ↦ by_author has (taken.author == author) refl
      | inr far ↦ inr (
        λ own. far (ap (λ (x : Turn). x.keys.list) (push_one s.turns t own.0 (sym taken.turns_are ∙ own.1)) ∙ own.3),
        taken.same far born,
      )
    ]
      where
        t : Turn
        t = turn (next_revision s.session.revision) taken.author taken.keys

        by_author : taken.keys.list ≡ Some parent → (b : Bool) → (taken.author == author) ≡ b → IsListBehind author parent s next old new
        by_author has true own =
            let both = taken.there has in
            inl (
              (t, taken.turns_are, eqb-true taken.author author own, has),
              both.0.1 ∙ ap (λ (l : List Child). Some l) (old_is both.0.0 both.0.1),
              both.1.1 ∙ ap (λ (l : List Child). Some l) (new_is both.1.0 both.1.1),
            )
        by_author has false other =
            let at : last.turns ≡ s.turns ++ t ∷ behind.turns =
            behind.turns_are ∙ ap (λ (l : List Turn). l ++ behind.turns) taken.turns_are ∙ append-assoc s.turns (t ∷ []) behind.turns in
            let unpassed = none_passes (unseen author parent seen) s.turns t behind.turns (subst (λ (l : List Turn). latest (unseen author parent seen) l ≡ None) at fresh) in
            let reached : next_revision s.session.revision ≤ last.session.revision =
            subst (λ (n : ℕ). n ≤ last.session.revision) taken.revision_is behind.later in
            let above = next_above s.session.revision last.session.revision reached few in
            absurd (not_touched author parent seen t unpassed (omega (arith, above, known)) other has)

    pub reply_owned : IsListBehind author parent s next old new
    reply_owned = elim moved.by [
      | inl same ↦ inr (λ own. same_length s.turns own.0 (sym same.0 ∙ own.1), same.1)
      | inr taken ↦ taken_so taken
    ]

  -- all replies
  module _ (last : OpenState) (seen : ℕ) (few : last.session.revision < 2 ^ 64 - 1) (fresh : latest (unseen author parent seen) last.turns ≡ None) where
    pub record Owned (s : OpenState) (reads : List Read) (said : List Said) (old : List Child) : Type 0 where
      pub behind : IsBehind s last
      pub list : List Child
      pub list_is : (l : List Child) → list_of_children last parent ≡ Some l → l ≡ list
      pub owned : IsListBehindAll author parent s reads said last old list

    pub owned_so : (keys : Log Touched) (s : OpenState) (it : IsTraced parent keys s) (reads : List Read) (said : List Said) → seen ≤ s.session.revision → parent < s.session.document.next_free
        → All IsReadyOr reads → AreAnswers s reads said last → Owned s reads said it.list
    owned_so keys s it [] [] known born ready h = record {
      behind = record { turns = []; turns_are = ap (λ (x : OpenState). x.turns) h ∙ sym (append_nil s.turns); later = (let n = ap (λ (x : OpenState). x.session.revision) h in omega (arith, n)) };
      list = it.list;
      list_is = λ l at. (it.now l (sym (ap (λ (x : OpenState). list_of_children x parent) h) ∙ at)).0;
      owned = (h, refl);
    }
      where
        append_nil : (l : List Turn) → l ++ [] ≡ l
        append_nil [] = refl
        append_nil (t ∷ l) = ap (λ (x : List Turn). t ∷ x) (append_nil l)
    owned_so keys s it [] (own ∷ more) known born ready h = absurd h
    owned_so keys s it (read ∷ reads) [] known born ready h = absurd h
    owned_so keys s it (read ∷ reads) (own ∷ more) known born ready h =
        let one = reply_so parent keys s it own h.0 read (All-head IsReadyOr read reads ready) h.1 in
        let later_on = one.moved.later in
        let free_on = one.moved.free in
        let rest = owned_so one.behind h.0 one.traced reads more (omega (arith, known, later_on)) (omega (arith, born, free_on)) (All-tail IsReadyOr read reads ready) h.2 in
        record {
          behind = joined_turns s h.0 last it.list one.traced.list one.moved rest.behind;
          list = rest.list;
          list_is = rest.list_is;
          owned = (
            h.0,
            one.traced.list,
            h.1,
            reply_owned s h.0 last it.list one.traced.list one.moved rest.behind seen known few fresh born (λ l at. (it.now l at).0) (λ l at. (one.traced.now l at).0),
            rest.owned,
          );
        }

-- ---- an insertion that is not stale

first_second : (a b : Option NodeKind) → ((kind : NodeKind) × (b ≡ Some kind)) → (kind : NodeKind) × (first_kind a b ≡ Some kind)
first_second None b h = h
first_second (Some kind) b h = (kind, refl)

kind_text : (key n : ℕ) (chars : List ℕ) (next : Forest) → (n == key) ≡ true → kind_of key (text n chars next) ≡ Some Chars
kind_text key n chars next e = rw e refl

kind_text_past : (key n : ℕ) (chars : List ℕ) (next : Forest) → (n == key) ≡ false → kind_of key (text n chars next) ≡ kind_of key next
kind_text_past key n chars next e = rw e refl

kind_here : (key n : ℕ) (name : Expanded) (bindings : List Binding) (attributes : List Attribute) (children next : Forest) → (n == key) ≡ true
    → kind_of key (element n name bindings attributes children next) ≡ Some Element
kind_here key n name bindings attributes children next e = rw e refl

kind_past : (key n : ℕ) (name : Expanded) (bindings : List Binding) (attributes : List Attribute) (children next : Forest) → (n == key) ≡ false
    → kind_of key (element n name bindings attributes children next) ≡ first_kind (kind_of key children) (kind_of key next)
kind_past key n name bindings attributes children next e = rw e refl

-- an element that has a list is live
kind_listed : (key : ℕ) (f : Forest) → IsListed key f → (kind : NodeKind) × (kind_of key f ≡ Some kind)
kind_listed key none h = absurd (none-some h.0 h.1)
kind_listed key (text n chars next) h = by (kind_listed key next h) (n == key) refl
  where
    by : ((kind : NodeKind) × (kind_of key next ≡ Some kind)) → (b : Bool) → (n == key) ≡ b → (kind : NodeKind) × (kind_of key (text n chars next) ≡ Some kind)
    by on true e = (Chars, kind_text key n chars next e)
    by on false e = (on.0, kind_text_past key n chars next e ∙ on.1)
kind_listed key (element n name bindings attributes children next) h = by (kind_listed key children) (kind_listed key next) (n == key) refl
  where
    by : (IsListed key children → (kind : NodeKind) × (kind_of key children ≡ Some kind)) → (IsListed key next → (kind : NodeKind) × (kind_of key next ≡ Some kind)) → (b : Bool) → (n == key) ≡ b
        → (kind : NodeKind) × (kind_of key (element n name bindings attributes children next) ≡ Some kind)
    by deep on true e = (Element, kind_here key n name bindings attributes children next e)
    by deep on false e = elim (or_one (list_at key children) (list_at key next) h.0 (sym (list_past key n name bindings attributes children next e) ∙ h.1)) [
      | inl k ↦
          let one = deep (h.0, k) in
          (one.0, kind_past key n name bindings attributes children next e ∙ ap (λ (o : Option NodeKind). first_kind o (kind_of key next)) one.1)
      | inr k ↦
          let one = first_second (kind_of key children) (kind_of key next) (on (h.0, k.1)) in
          (one.0, kind_past key n name bindings attributes children next e ∙ one.1)
    ]

not_faulty : (late : Bool) (o : Option ℕ) → fault_by late o ≡ None → o ≡ None
not_faulty true o e = absurd (none-some BadRevision (sym e))
not_faulty false None e = refl
not_faulty false (Some n) e = absurd (none-some (Stale n) (sym e))

live_then : (kind : Option NodeKind) (o : Option ℕ) → ((k : NodeKind) × (kind ≡ Some k)) → if_live kind o ≡ None → o ≡ None
live_then None o h e = absurd (none-some h.0 h.1)
live_then (Some k) o h e = e

module _ (s : OpenState) (author seen parent : ℕ) where
  -- an insertion below an element that is not refused for its turn
  pub unseen_none : (edit : Edit) → puts_into edit ≡ Some parent → IsListed parent s.session.document.forest → turn_fault s author seen edit ≡ None
      → latest (unseen author parent seen) s.turns ≡ None
  unseen_none (edits.Insert above place its) same listed_now e = at above (same_Some above parent same) (not_faulty (nat_lt s.session.revision seen) (stale_by s author seen (edits.Insert above place its)) e)
    where
      at : (n : ℕ) → n ≡ parent → if_live (kind_of n s.session.document.forest) (stale s.turns author seen (list_of n)) ≡ None → latest (unseen author parent seen) s.turns ≡ None
      at n is h =
          live_then (kind_of parent s.session.document.forest) (stale s.turns author seen (list_of parent)) (kind_listed parent s.session.document.forest listed_now)
          (subst (λ (m : ℕ). if_live (kind_of m s.session.document.forest) (stale s.turns author seen (list_of m)) ≡ None) is h)
  unseen_none (edits.AddText above place chars) same listed_now e = at above (same_Some above parent same) (not_faulty (nat_lt s.session.revision seen) (stale_by s author seen (edits.AddText above place chars)) e)
    where
      at : (n : ℕ) → n ≡ parent → if_live (kind_of n s.session.document.forest) (stale s.turns author seen (list_of n)) ≡ None → latest (unseen author parent seen) s.turns ≡ None
      at n is h =
          live_then (kind_of parent s.session.document.forest) (stale s.turns author seen (list_of parent)) (kind_listed parent s.session.document.forest listed_now)
          (subst (λ (m : ℕ). if_live (kind_of m s.session.document.forest) (stale s.turns author seen (list_of m)) ≡ None) is h)
  unseen_none (edits.SetText node chars) same listed_now e = absurd (none-some parent same)
  unseen_none (edits.Remove node) same listed_now e = absurd (none-some parent same)
  unseen_none (edits.Rename node name) same listed_now e = absurd (none-some parent same)
  unseen_none (edits.SetAttr node name value) same listed_now e = absurd (none-some parent same)
  unseen_none (edits.UnsetAttr node name) same listed_now e = absurd (none-some parent same)

-- the list that the author had seen, changed by the author's own turns alone
pub lists_so : (keys : Log Touched) (s : OpenState) (author parent : ℕ) → IsTraced parent keys s → (reads : List Read) (said : List Said) (last : OpenState) → All IsReadyOr reads → AreAnswers s reads said last
    → last.session.revision < 2 ^ 64 - 1 → (edit : Edit) → puts_into edit ≡ Some parent → turn_fault last author s.session.revision edit ≡ None
    → (old new : List Child) → list_of_children s parent ≡ Some old → list_of_children last parent ≡ Some new → IsListBehindAll author parent s reads said last old new
lists_so keys s author parent it reads said last ready h few edit puts unfaulty old new was is =
    let fresh = unseen_none last author s.session.revision parent edit puts (new, is) unfaulty in
    let first = it.now old was in
    let all = owned_so author parent last s.session.revision few fresh keys s it reads said (omega arith) first.1 ready h in
    subst (λ (l : List Child). IsListBehindAll author parent s reads said last l new) (sym first.0)
    (subst (λ (l : List Child). IsListBehindAll author parent s reads said last it.list l) (sym (all.list_is new is)) all.owned)
