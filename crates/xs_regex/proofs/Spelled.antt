-- The texts of an expression over classes, by its words over the numbers of classes.
use Rattle.std.proofs.Common.{◌≡◌, ℕ, zero, suc, Bool, List, [], ◌∷◌, ◌++◌, map, refl, ap, ◌∙◌, inl, inr}
use Rattle.std.specs.Prelude.{IsTrue}
use Rattle.xs_positions.specs.Tree.{Tree, one, empty, chain, nothing, either, repeat}
use Rattle.xs_positions.specs.PositionWords.{Spells, Rounds}
use Rattle.pattern_syntax.specs.Classes.{Class, has}
use Rattle.pattern_syntax.specs.Regex.{Matches}
use Rattle.pattern_syntax.specs.Trees.{class_at, regex_of}
use Rattle.xs_regex.specs.Words.{Reads}

reads_append : (takes : ℕ → ℕ → Bool) (a b cs ds : List ℕ) → Reads takes a cs → Reads takes b ds → Reads takes (a ++ b) (cs ++ ds)
reads_append takes [] b [] ds r s = s
reads_append takes [] b (c ∷ cs) ds r s = absurd r
reads_append takes (x ∷ a) b [] ds r s = absurd r
reads_append takes (x ∷ a) b (c ∷ cs) ds r s = (r.0, reads_append takes a b cs ds r.1 s)

reads_cut : (takes : ℕ → ℕ → Bool) (a b text : List ℕ) → Reads takes (a ++ b) text → (cs ds : List ℕ) × (text ≡ cs ++ ds) × Reads takes a cs × Reads takes b ds
reads_cut takes [] b text r = ([], text, refl, tt, r)
reads_cut takes (x ∷ a) b [] r = absurd r
reads_cut takes (x ∷ a) b (c ∷ text) r =
    let h = reads_cut takes a b text r.1 in
    (c ∷ h.0, h.1, ap (λ z. c ∷ z) h.2, (r.0, h.3), h.4)

module _ (classes : List Class) where
  abbrev pub of_class : ℕ → ℕ → Bool
  of_class number c = has (class_at classes number) c

  -- the text is spelled by numbers whose classes have its characters
  abbrev pub Spelled : (List ℕ → Type 0) → List ℕ → Type 0
  Spelled Word text = (numbers : List ℕ) × Word numbers × Reads of_class numbers text

  splits_spelled : (P : List ℕ → Type 0) (S : List ℕ → Type 0) → ((cs : List ℕ) → P cs → Spelled S cs) →
      (rounds round : ℕ) (text : List ℕ) → Rounds (λ r front. P front) rounds round text → Spelled (Rounds (λ r front. S front) rounds round) text
  splits_spelled P S f zero round text e = ([], refl, rw e tt)
  splits_spelled P S f (suc more) round text (front, back, e, p, h) =
      let a = f front p in
      let b = splits_spelled P S f more (suc round) back h in
      (a.0 ++ b.0, (a.0, b.0, refl, a.1, b.1), rw e (reads_append of_class a.0 b.0 front back a.2 b.2))

  spelled_splits : (P : List ℕ → Type 0) (S : List ℕ → Type 0) → ((numbers cs : List ℕ) → S numbers → Reads of_class numbers cs → P cs) →
      (rounds round : ℕ) (numbers text : List ℕ) → Rounds (λ r front. S front) rounds round numbers → Reads of_class numbers text → Rounds (λ r front. P front) rounds round text
  spelled_splits P S f zero round numbers text e r = no_reads text (rw e at r)
    where
      no_reads : (text : List ℕ) → Reads of_class [] text → text ≡ []
      no_reads [] r = refl
      no_reads (c ∷ cs) r = absurd r
  spelled_splits P S f (suc more) round numbers text (front, back, e, s, h) r =
      let k = reads_cut of_class front back text (rw e at r) in
      (k.0, k.1, k.2, f front k.0 s k.3, spelled_splits P S f more (suc round) back k.1 h k.4)

  pub matches_spelled : (tree : Tree) (text : List ℕ) → Matches (regex_of classes tree) text → Spelled (Spells tree) text
  matches_spelled (one number) text (c, e, h) = (number ∷ [], (number, refl, refl), rw e (h, tt))
  matches_spelled empty text e = ([], refl, rw e tt)
  matches_spelled (chain a b) text (front, back, e, m, n) =
      let x = matches_spelled a front m in
      let y = matches_spelled b back n in
      (x.0 ++ y.0, (x.0, y.0, refl, x.1, y.1), rw e (reads_append of_class x.0 y.0 front back x.2 y.2))
  matches_spelled nothing text m = absurd m
  matches_spelled (either a b) text (inl m) = let x = matches_spelled a text m in (x.0, inl x.1, x.2)
  matches_spelled (either a b) text (inr m) = let x = matches_spelled b text m in (x.0, inr x.1, x.2)
  matches_spelled (repeat part least most) text (rounds, allowed, h) =
      let x = splits_spelled (Matches (regex_of classes part)) (Spells part) (matches_spelled part) rounds 0 text h in
      (x.0, (rounds, allowed, x.1), x.2)

  pub spelled_matches : (tree : Tree) (numbers text : List ℕ) → Spells tree numbers → Reads of_class numbers text → Matches (regex_of classes tree) text
  spelled_matches (one number) numbers text (letter, s, same) r = taken number text (let e : numbers ≡ number ∷ [] = s ∙ ap (λ x. x ∷ []) same in rw e at r)
    where
      taken : (number : ℕ) (text : List ℕ) → Reads of_class (number ∷ []) text → (c : ℕ) × (text ≡ c ∷ []) × IsTrue (has (class_at classes number) c)
      taken number [] r = absurd r
      taken number (c ∷ []) r = (c, refl, r.0)
      taken number (c ∷ d ∷ cs) r = absurd r.1
  spelled_matches empty numbers text s r = no_reads text (rw s at r)
    where
      no_reads : (text : List ℕ) → Reads of_class [] text → text ≡ []
      no_reads [] r = refl
      no_reads (c ∷ cs) r = absurd r
  spelled_matches (chain a b) numbers text (front, back, e, s, t) r =
      let k = reads_cut of_class front back text (rw e at r) in
      (k.0, k.1, k.2, spelled_matches a front k.0 s k.3, spelled_matches b back k.1 t k.4)
  spelled_matches nothing numbers text s r = absurd s
  spelled_matches (either a b) numbers text (inl s) r = inl (spelled_matches a numbers text s r)
  spelled_matches (either a b) numbers text (inr s) r = inr (spelled_matches b numbers text s r)
  spelled_matches (repeat part least most) numbers text (rounds, allowed, h) r =
      (rounds, allowed, spelled_splits (Matches (regex_of classes part)) (Spells part) (spelled_matches part) rounds 0 numbers text h r)

-- positions take characters as their symbols' classes do
pub reads_map : (takes : ℕ → ℕ → Bool) (f : ℕ → ℕ) (word text : List ℕ) → Reads takes (map f word) text → Reads (λ p c. takes (f p) c) word text
reads_map takes f [] [] r = r
reads_map takes f [] (c ∷ cs) r = r
reads_map takes f (p ∷ word) [] r = r
reads_map takes f (p ∷ word) (c ∷ cs) r = (r.0, reads_map takes f word cs r.1)

pub map_reads : (takes : ℕ → ℕ → Bool) (f : ℕ → ℕ) (word text : List ℕ) → Reads (λ p c. takes (f p) c) word text → Reads takes (map f word) text
map_reads takes f [] [] r = r
map_reads takes f [] (c ∷ cs) r = r
map_reads takes f (p ∷ word) [] r = r
map_reads takes f (p ∷ word) (c ∷ cs) r = (r.0, map_reads takes f word cs r.1)
