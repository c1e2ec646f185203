-- The words of an all by the members that accept their names, where at most one accepts a name.
use Rattle.std.proofs.Common.{◌≡◌, ◌≢◌, ℕ, suc, ◌+◌, ◌-◌, ◌<◌, ◌≤◌, ◌==◌, Bool, true, false, IsTrue, List, [], ◌∷◌, ◌++◌, map, length, get_or, refl, sym, ap, subst, ◌∙◌, inl, inr, arith, if◌then◌else◌, eq-eqb, eqb-true}
use Rattle.std.specs.List.{All}
use Rattle.std.proofs.lemmas.Bool.{cases_eq}
use Rattle.std.proofs.lemmas.List.Elements.{All-nil, All-cons, All-head, All-tail}
use Rattle.xs_positions.specs.PositionWords.{Allows}
use Rattle.particle_models.specs.Particles.{Mark}
use Rattle.particle_models.specs.Words.{WordsOfEach, names_of}
use Rattle.content_models.specs.Shape.{no_member, particles_of, IsOnce, AreLetters}
use Rattle.content_models.specs.declared.member.AllMember.{AllMember}
use Rattle.content_models.proofs.Counting.{index, count_of, count_append, Fits, all_counts, counts_all}
use Rattle.content_models.proofs.Filling.{Fit, mark_at, fits_at, front_all, word_fits, begins}

-- how many of the letters are this one
abbrev pub count_in : ℕ → List ℕ → ℕ
count_in i [] = 0
count_in i (l ∷ ls) = if l == i then suc (count_in i ls) else count_in i ls

pub in_same : (i l : ℕ) (ls : List ℕ) → l ≡ i → count_in i (l ∷ ls) ≡ suc (count_in i ls)
in_same i l ls e = let t : (l == i) ≡ true = eq-eqb l i e in rw t refl

pub in_other : (i l : ℕ) (ls : List ℕ) → l ≢ i → count_in i (l ∷ ls) ≡ count_in i ls
in_other i l ls d = other (l == i) refl
  where
    other : (b : Bool) → (l == i) ≡ b → (if b then suc (count_in i ls) else count_in i ls) ≡ count_in i ls
    other true e = absurd (d (eqb-true l i e))
    other false e = refl

pub in_append : (i : ℕ) (xs ys : List ℕ) → count_in i (xs ++ ys) ≡ count_in i xs + count_in i ys
in_append i [] ys = omega arith
in_append i (l ∷ xs) ys = elim (cases_eq l i) [
  | inl e ↦ (let r = in_append i xs ys in let a = in_same i l (xs ++ ys) e in let b = in_same i l xs e in omega arith)
  | inr d ↦ (let r = in_append i xs ys in let a = in_other i l (xs ++ ys) d in let b = in_other i l xs d in omega arith)
]

module _ (members : List AllMember) where
  -- the letters are of members
  abbrev pub AreIn : List ℕ → Type 0
  AreIn ls = All (λ l. l < length members) ls

  -- and none of them comes twice
  abbrev pub IsGood : List ℕ → Type 0
  IsGood ls = AreIn ls × ((j : ℕ) → j < length members → count_in j ls ≤ 1)

  -- the letters are those of a word
  abbrev pub IsFull : List ℕ → Type 0
  IsFull ls = AreIn ls × ((j : ℕ) → j < length members → Allows (get_or members j no_member).least (get_or members j no_member).most (count_in j ls))

module _ {Name : Type 0} (accepts : ℕ → Name → Bool) (members : List AllMember) (letter : Name → ℕ) (are : AreLetters accepts members letter) where
  index_letter : (x : Mark Name) → Fits accepts 0 members x → index x ≡ letter x.name
  index_letter x h =
      let l : index x < 0 + length members = h.1 in
      let e : letter x.name ≡ index x - 0 = (are (index x - 0) no_member (omega arith) x.name).0 h.2.1 in omega arith

  count_letters : (i : ℕ) (word : List (Mark Name)) → Fit accepts members word → count_of i word ≡ count_in i (map letter (names_of word))
  count_letters i [] h = refl
  count_letters i (x ∷ word) h =
      let e = index_letter x (All-head (Fits accepts 0 members) x word h) in
      let r = count_letters i word (All-tail (Fits accepts 0 members) x word h) in
      ap (λ k. if k == i then suc (count_of i word) else count_of i word) e ∙ ap (λ n. if letter x.name == i then suc n else n) r

  letters_in : (word : List (Mark Name)) → Fit accepts members word → AreIn members (map letter (names_of word))
  letters_in [] h = All-nil (λ l. l < length members)
  letters_in (x ∷ word) h =
      let f = All-head (Fits accepts 0 members) x word h in
      let e = index_letter x f in let l : index x < 0 + length members = f.1 in
      All-cons (λ l. l < length members) (letter x.name) (map letter (names_of word)) (omega arith) (letters_in word (All-tail (Fits accepts 0 members) x word h))

  abbrev marks_of : List Name → List (Mark Name)
  marks_of [] = []
  marks_of (name ∷ names) = mark_at accepts members (letter name) name ∷ marks_of names

  marks_fit : (names : List Name) → AreIn members (map letter names) → Fit accepts members (marks_of names)
  marks_fit [] h = All-nil (Fits accepts 0 members)
  marks_fit (name ∷ names) h =
      let l = All-head (λ l. l < length members) (letter name) (map letter names) h in
      All-cons (Fits accepts 0 members) (mark_at accepts members (letter name) name) (marks_of names)
      (fits_at accepts members (letter name) name l ((are (letter name) no_member l name).1 refl))
      (marks_fit names (All-tail (λ l. l < length members) (letter name) (map letter names) h))

  names_marks : (names : List Name) → names_of (marks_of names) ≡ names
  names_marks [] = refl
  names_marks (name ∷ names) = ap (λ xs. name ∷ xs) (names_marks names)

  marks_count : (i : ℕ) (names : List Name) → AreIn members (map letter names) → count_of i (marks_of names) ≡ count_in i (map letter names)
  marks_count i names h = count_letters i (marks_of names) (marks_fit names h) ∙ ap (λ xs. count_in i (map letter xs)) (names_marks names)

  -- ---- the names of a word, and of the begin of one
  abbrev pub IsEach : List Name → Type 0
  IsEach names = (word : List (Mark Name)) × WordsOfEach accepts (particles_of members) [] 0 word × (names_of word ≡ names)

  abbrev pub BeginsEach : List Name → Type 0
  BeginsEach names = (front rest : List (Mark Name)) × WordsOfEach accepts (particles_of members) [] 0 (front ++ rest) × (names_of front ≡ names)

  pub each_full : (names : List Name) → IsEach names → IsFull members (map letter names)
  each_full names (word, w, e) =
      let r = all_counts accepts members 0 word w in
      subst (λ (xs : List Name). IsFull members (map letter xs)) e (
        letters_in word r.0,
        (λ j l.
            let z : 0 + j ≡ j = omega arith in
            let c : count_of (0 + j) word ≡ count_in j (map letter (names_of word)) = ap (λ k. count_of k word) z ∙ count_letters j word r.0 in
            subst (λ (k : ℕ). Allows (get_or members j no_member).least (get_or members j no_member).most k) c (r.1 j l)),
      )

  pub full_each : (names : List Name) → IsFull members (map letter names) → IsEach names
  full_each names (within, counts) = (
    marks_of names,
    counts_all accepts members 0 (marks_of names) (marks_fit names within) (λ j l.
        let z : 0 + j ≡ j = omega arith in
        let c : count_in j (map letter names) ≡ count_of (0 + j) (marks_of names) = sym (marks_count j names within) ∙ ap (λ k. count_of k (marks_of names)) (sym z) in
        subst (λ (k : ℕ). Allows (get_or members j no_member).least (get_or members j no_member).most k) c (counts j l)),
    names_marks names,
  )

  pub begins_good : (names : List Name) → All IsOnce members → BeginsEach names → IsGood members (map letter names)
  begins_good names once (front, rest, w, e) =
      let r = word_fits accepts members (front ++ rest) once w in
      let fit = front_all accepts members (Fits accepts 0 members) front rest r.0 in
      subst (λ (xs : List Name). IsGood members (map letter xs)) e (
        letters_in front fit,
        (λ j l. let c = count_letters j front fit in let a = count_append j front rest in let m = r.1 j l in omega arith),
      )

  pub good_begins : (names : List Name) → All IsOnce members → ((j : ℕ) → j < length members → 0 < (get_or members j no_member).least → (name : Name) × IsTrue (accepts (get_or members j no_member).term name)) →
      IsGood members (map letter names) → BeginsEach names
  good_begins names once has (within, counts) =
      let b = begins accepts members once has (marks_of names) (marks_fit names within) (λ j l. let c = marks_count j names within in let k = counts j l in omega arith) in
      (marks_of names, b.0, b.1, names_marks names)
