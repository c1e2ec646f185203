-- Terms that grow, and what stands for them.
use Rattle.std.proofs.Common.{◌≡◌, ℕ, zero, suc, Bool, true, false, if◌then◌else◌, nat_lt, List, [], ◌∷◌, ◌++◌, map, reverse, length, Option, Some, refl, ap, sym, ◌∙◌, subst, arith}
use Rattle.std.proofs.lemmas.Bool.Decides.{nat_tests}
use Rattle.std.proofs.lemmas.List.{reverse-append}
use Rattle.std.specs.List.{list_all}
use Rattle.pattern_syntax.specs.Regex.{Regex, repeated, sequence_of, choice_of, regex_at}
use Rattle.pattern_syntax.specs.declared.building.OpenGroup.{OpenGroup}
use Rattle.pattern_syntax.specs.Built.{Built, with_piece, with_bounds, barred, closed, closed_into, all_branches, change_last}
use Rattle.pattern_syntax.specs.Views.{knows, knows_group, frame_of, built_over}
use Rattle.pattern_syntax.proofs.Choosing.{both, left_of, right_of, length_snoc}
use Rattle.pattern_syntax.proofs.Lists.{change_last_snoc}

all_mono : {A : Type 0} (p q : A → Bool) (xs : List A) → ((x : A) → p x ≡ true → q x ≡ true) → list_all p xs ≡ true → list_all q xs ≡ true
all_mono p q [] h e = refl
all_mono p q (x ∷ xs) h e = both (q x) (list_all q xs) (h x (left_of (p x) (list_all p xs) e)) (all_mono p q xs h (right_of (p x) (list_all p xs) e))

all_snoc : {A : Type 0} (p : A → Bool) (xs : List A) (x : A) → list_all p xs ≡ true → p x ≡ true → list_all p (xs ++ x ∷ []) ≡ true
all_snoc p [] x e f = both (p x) true f refl
all_snoc p (y ∷ ys) x e f = both (p y) (list_all p (ys ++ x ∷ [])) (left_of (p y) (list_all p ys) e) (all_snoc p ys x (right_of (p y) (list_all p ys) e) f)

pub all_front : {A : Type 0} (p : A → Bool) (xs : List A) (x : A) → list_all p (xs ++ x ∷ []) ≡ true → list_all p xs ≡ true
all_front p [] x e = refl
all_front p (y ∷ ys) x e = both (p y) (list_all p ys) (left_of (p y) (list_all p (ys ++ x ∷ [])) e) (all_front p ys x (right_of (p y) (list_all p (ys ++ x ∷ [])) e))

pub all_last : {A : Type 0} (p : A → Bool) (xs : List A) (x : A) → list_all p (xs ++ x ∷ []) ≡ true → p x ≡ true
all_last p [] x e = left_of (p x) true e
all_last p (y ∷ ys) x e = all_last p ys x (right_of (p y) (list_all p (ys ++ x ∷ [])) e)

lt_suc : (a b : ℕ) → nat_lt a b ≡ true → nat_lt a (suc b) ≡ true
lt_suc a b e = grind (arith, nat_tests)

lt_self : (a : ℕ) → nat_lt a (suc a) ≡ true
lt_self a = grind (arith, nat_tests)

lt_less : (a b : ℕ) → nat_lt (suc a) (suc b) ≡ true → nat_lt a b ≡ true
lt_less a b e = grind (arith, nat_tests)

none_below : (a : ℕ) → nat_lt a 0 ≡ true → ⊥
none_below a e = grind (arith, nat_tests)

reverse_snoc : {A : Type 0} (xs : List A) (x : A) → reverse (xs ++ x ∷ []) ≡ x ∷ reverse xs
reverse_snoc xs x = reverse-append xs (x ∷ [])

at_front : (rs : List Regex) (x : Regex) (id : ℕ) → nat_lt id (length rs) ≡ true → regex_at (rs ++ x ∷ []) id ≡ regex_at rs id
at_front [] x id e = absurd (none_below id e)
at_front (r ∷ rs) x zero e = refl
at_front (r ∷ rs) x (suc id) e = at_front rs x id (lt_less id (length rs) e)

at_last : (rs : List Regex) (x : Regex) → regex_at (rs ++ x ∷ []) (length rs) ≡ x
at_last [] x = refl
at_last (r ∷ rs) x = at_last rs x

map_snoc : {A B : Type 0} (f : A → B) (xs : List A) (x : A) → map f (xs ++ x ∷ []) ≡ map f xs ++ f x ∷ []
map_snoc f [] x = refl
map_snoc f (y ∷ ys) x = ap (λ l. f y ∷ l) (map_snoc f ys x)

map_same : {A B : Type 0} (p : A → Bool) (f g : A → B) (xs : List A) → ((x : A) → p x ≡ true → f x ≡ g x) → list_all p xs ≡ true → map f xs ≡ map g xs
map_same p f g [] h e = refl
map_same p f g (x ∷ xs) h e = λ i. h x (left_of (p x) (list_all p xs) e) i ∷ map_same p f g xs h (right_of (p x) (list_all p xs) e) i

-- ---- one term more

module _ (rs rs' : List Regex) (x : Regex) (more : rs' ≡ rs ++ x ∷ []) where
  length_more : length rs' ≡ suc (length rs)
  length_more = ap length more ∙ length_snoc rs x

  pub knows_more : (ids : List ℕ) → knows (length rs) ids ≡ true → knows (length rs') ids ≡ true
  knows_more ids e = subst (λ n. knows n ids ≡ true) (sym length_more) (all_mono (λ id. nat_lt id (length rs)) (λ id. nat_lt id (suc (length rs))) ids (λ id. lt_suc id (length rs)) e)

  group_more : (g : OpenGroup) → knows_group (length rs) g ≡ true → knows_group (length rs') g ≡ true
  group_more g e =
      both (knows (length rs') g.branches.items) (knows (length rs') g.pieces.items)
      (knows_more g.branches.items (left_of (knows (length rs) g.branches.items) (knows (length rs) g.pieces.items) e))
      (knows_more g.pieces.items (right_of (knows (length rs) g.branches.items) (knows (length rs) g.pieces.items) e))

  pub groups_more : (gs : List OpenGroup) → list_all (knows_group (length rs)) gs ≡ true → list_all (knows_group (length rs')) gs ≡ true
  groups_more gs e = all_mono (knows_group (length rs)) (knows_group (length rs')) gs group_more e

  pub knows_pushed : (ids ids' : List ℕ) (id : ℕ) (t : Bool) → id ≡ length rs → knows (length rs) ids ≡ true → ids' ≡ (if t then ids ++ id ∷ [] else ids) → knows (length rs') ids' ≡ true
  knows_pushed ids ids' id false same e f = subst (λ l. knows (length rs') l ≡ true) (sym f) (knows_more ids e)
  knows_pushed ids ids' id true same e f =
      subst (λ l. knows (length rs') l ≡ true) (sym f)
      (all_snoc (λ k. nat_lt k (length rs')) ids id (knows_more ids e) (subst (λ n. nat_lt id n ≡ true) (sym length_more) (subst (λ n. nat_lt n (suc (length rs)) ≡ true) (sym same) (lt_self (length rs)))))

  id_stays : (id : ℕ) → nat_lt id (length rs) ≡ true → regex_at rs' id ≡ regex_at rs id
  id_stays id e = ap (λ l. regex_at l id) more ∙ at_front rs x id e

  pub ids_stay : (ids : List ℕ) → knows (length rs) ids ≡ true → map (regex_at rs') ids ≡ map (regex_at rs) ids
  ids_stay ids e = map_same (λ id. nat_lt id (length rs)) (regex_at rs') (regex_at rs) ids id_stays e

  pub new_id : (id : ℕ) → id ≡ length rs → regex_at rs' id ≡ x
  new_id id same = (λ i. regex_at (more i) (same i)) ∙ at_last rs x

  ids_pushed : (ids : List ℕ) (id : ℕ) → id ≡ length rs → knows (length rs) ids ≡ true → map (regex_at rs') (ids ++ id ∷ []) ≡ map (regex_at rs) ids ++ x ∷ []
  ids_pushed ids id same e = map_snoc (regex_at rs') ids id ∙ (λ i. ids_stay ids e i ++ new_id id same i ∷ [])

  frame_stays : (g : OpenGroup) → knows_group (length rs) g ≡ true → frame_of rs' g ≡ frame_of rs g
  frame_stays g e =
      let b = ids_stay g.branches.items (left_of (knows (length rs) g.branches.items) (knows (length rs) g.pieces.items) e) in
      let p = ids_stay g.pieces.items (right_of (knows (length rs) g.branches.items) (knows (length rs) g.pieces.items) e) in
      λ i. record { branches = b i; pieces = p i }

  outer_stays : (gs : List OpenGroup) → list_all (knows_group (length rs)) gs ≡ true → reverse (map (frame_of rs') gs) ≡ reverse (map (frame_of rs) gs)
  outer_stays gs e = ap reverse (map_same (knows_group (length rs)) (frame_of rs') (frame_of rs) gs frame_stays e)

  -- a new piece
  pub piece_pushed : (outer : List OpenGroup) (branches pieces pieces' : List ℕ) (id : ℕ) → id ≡ length rs →
      list_all (knows_group (length rs)) outer ≡ true → knows (length rs) branches ≡ true → knows (length rs) pieces ≡ true → pieces' ≡ pieces ++ id ∷ [] →
      built_over rs' outer branches pieces' ≡ with_piece (built_over rs outer branches pieces) x
  piece_pushed outer branches pieces pieces' id same eo eb ep f =
      let p = ap (map (regex_at rs')) f ∙ ids_pushed pieces id same ep in
      let b = ids_stay branches eb in
      let o = outer_stays outer eo in
      λ i. record { outer = o i; here = record { branches = b i; pieces = p i } }

  -- the branch in hand is done
  pub branch_pushed : (outer : List OpenGroup) (branches branches' pieces pieces' : List ℕ) (id : ℕ) → id ≡ length rs → x ≡ sequence_of (map (regex_at rs) pieces) →
      list_all (knows_group (length rs)) outer ≡ true → knows (length rs) branches ≡ true → branches' ≡ branches ++ id ∷ [] → pieces' ≡ [] →
      built_over rs' outer branches' pieces' ≡ barred (built_over rs outer branches pieces)
  branch_pushed outer branches branches' pieces pieces' id same is eo eb f g =
      let b = ap (map (regex_at rs')) f ∙ ids_pushed branches id same eb ∙ ap (λ r. map (regex_at rs) branches ++ r ∷ []) is in
      let o = outer_stays outer eo in
      let p = ap (map (regex_at rs')) g in
      λ i. record { outer = o i; here = record { branches = b i; pieces = p i } }

  -- the last piece is repeated instead
  pub piece_repeated : (outer : List OpenGroup) (branches pieces front pieces' : List ℕ) (part id least : ℕ) (most : Option ℕ) → id ≡ length rs → x ≡ repeated (regex_at rs part) least most →
      list_all (knows_group (length rs)) outer ≡ true → knows (length rs) branches ≡ true → knows (length rs) front ≡ true → pieces ≡ front ++ part ∷ [] → pieces' ≡ front ++ id ∷ [] →
      built_over rs' outer branches pieces' ≡ with_bounds (built_over rs outer branches pieces) least most
  piece_repeated outer branches pieces front pieces' part id least most same is eo eb ep f g =
      let h : Regex → Regex = λ r. repeated r least most in
      let p = ap (map (regex_at rs')) g ∙ ids_pushed front id same ep ∙ ap (λ r. map (regex_at rs) front ++ r ∷ []) is
      ∙ sym (ap (λ l. change_last h (map (regex_at rs) l)) f ∙ ap (change_last h) (map_snoc (regex_at rs) front part) ∙ change_last_snoc h (map (regex_at rs) front) (regex_at rs part)) in
      let b = ids_stay branches eb in
      let o = outer_stays outer eo in
      λ i. record { outer = o i; here = record { branches = b i; pieces = p i } }

  -- the group around is in hand again, with a new piece
  pub group_closed : (b : Built) (outer outer' : List OpenGroup) (around : OpenGroup) (branches pieces pieces' : List ℕ) (id : ℕ) → id ≡ length rs → x ≡ choice_of (map (regex_at rs) branches) →
      built_over rs outer branches pieces ≡ barred b → list_all (knows_group (length rs)) outer ≡ true → outer ≡ outer' ++ around ∷ [] → pieces' ≡ around.pieces.items ++ id ∷ [] →
      closed b ≡ Some (built_over rs' outer' around.branches.items pieces')
  group_closed b outer outer' around branches pieces pieces' id same is done eo f g =
      let all : list_all (knows_group (length rs)) (outer' ++ around ∷ []) ≡ true = subst (λ l. list_all (knows_group (length rs)) l ≡ true) f eo in
      let inner : knows_group (length rs) around ≡ true = all_last (knows_group (length rs)) outer' around all in
      let before : b.outer ≡ frame_of rs around ∷ reverse (map (frame_of rs) outer')
      = sym (ap (λ y. y.outer) done) ∙ ap (λ l. reverse (map (frame_of rs) l)) f ∙ ap reverse (map_snoc (frame_of rs) outer' around) ∙ reverse_snoc (map (frame_of rs) outer') (frame_of rs around) in
      let branch : all_branches b.here ≡ map (regex_at rs) branches = sym (ap (λ y. y.here.branches) done) in
      let now = piece_pushed outer' around.branches.items around.pieces.items pieces' id same (all_front (knows_group (length rs)) outer' around all)
      (left_of (knows (length rs) around.branches.items) (knows (length rs) around.pieces.items) inner)
      (right_of (knows (length rs) around.branches.items) (knows (length rs) around.pieces.items) inner) g in
      ap (closed_into b.here) before
      ∙ ap (λ r. Some (with_piece (record { outer = reverse (map (frame_of rs) outer'); here = frame_of rs around }) r)) (ap choice_of branch ∙ sym is)
      ∙ ap Some (sym now)

-- ---- what is known of parts

pub nothing_known : (n : ℕ) (ids : List ℕ) → ids ≡ [] → knows n ids ≡ true
nothing_known n ids e = subst (λ l. knows n l ≡ true) (sym e) refl

pub known_front : (n : ℕ) (ids front : List ℕ) (id : ℕ) → ids ≡ front ++ id ∷ [] → knows n ids ≡ true → knows n front ≡ true
known_front n ids front id e k = all_front (λ i. nat_lt i n) front id (subst (λ l. knows n l ≡ true) e k)

module _ (n : ℕ) (gs front : List OpenGroup) (g : OpenGroup) (e : gs ≡ front ++ g ∷ []) (k : list_all (knows_group n) gs ≡ true) where
  whole : list_all (knows_group n) (front ++ g ∷ []) ≡ true
  whole = subst (λ l. list_all (knows_group n) l ≡ true) e k

  pub groups_front : list_all (knows_group n) front ≡ true
  groups_front = all_front (knows_group n) front g whole

  pub group_branches : knows n g.branches.items ≡ true
  group_branches = left_of (knows n g.branches.items) (knows n g.pieces.items) (all_last (knows_group n) front g whole)

  pub group_pieces : knows n g.pieces.items ≡ true
  group_pieces = right_of (knows n g.branches.items) (knows n g.pieces.items) (all_last (knows_group n) front g whole)
