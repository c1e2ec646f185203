-- Parts in order that are joined in blocks.
use Rattle.std.proofs.Common.{◌≡◌, ℕ, zero, suc, ◌+◌, ◌<◌, ◌≤◌, true, ◌&&◌, IsTrue, List, [], ◌∷◌, ◌++◌, length, get_or, take, refl, sym, ap, ◌∙◌, arith, append-nil, append_assoc}
use Rattle.std.proofs.lemmas.Bool.{and_parts}
use Rattle.std.proofs.lemmas.List.{take_more}
use Rattle.xs_positions.specs.Tree.{Tree, nothing, size, sequence_of}
use Rattle.xs_positions.specs.Measures.{has_word}
use Rattle.xs_positions.specs.PositionWords.{IsWord}
use Rattle.xs_positions.specs.Parts.{sets_of, unused, IsJoined, IsPartOf, AreParts}
use Rattle.xs_positions.specs.declared.sets.Part.{Part}
use Rattle.xs_positions.proofs.Parting.{parts_length, part_at}
use Rattle.xs_positions.proofs.Measuring.{size-sequence_of, has_empty-sequence_of, has_word-sequence_of, size-append, has_empty-append, has_word-append}
use Rattle.xs_positions.proofs.Worded.{sequence_words, append_words}
use Rattle.xs_positions.proofs.Steps.{row_count, last_within, has_word_front, joined_next, empty_sequence}

-- the first of so many parts are joined, and those after them in a block of their own
pub record AreBlocks (trees : List Tree) (base count : ℕ) (whole block : Part) : Type 0 where
  pub front : List Tree
  pub back : List Tree
  pub are : take count trees ≡ front ++ back
  pub whole_is : IsPartOf (sequence_of front) base whole
  pub block_is : IsPartOf (sequence_of back) (base + size (sequence_of front)) block

size_front : (ts : List Tree) (k : ℕ) → size (sequence_of (take k ts)) ≤ size (sequence_of ts)
size_front ts zero = omega arith
size_front [] (suc k) = omega arith
size_front (t ∷ ts) (suc k) = let e = size_front ts k in omega arith

-- at the beginning
pub no_blocks : (trees : List Tree) (base : ℕ) (whole block : Part) → sets_of whole ≡ unused 0 → whole.nullable ≡ true → sets_of block ≡ unused 0 → block.nullable ≡ true →
    AreBlocks trees base 0 whole block
no_blocks trees base whole block e n f m = record {
  front = [];
  back = [];
  are = refl;
  whole_is = empty_sequence base whole e n;
  block_is = empty_sequence (base + size {S = ℕ} (sequence_of [])) block f m;
}

module _ (trees : List Tree) (base i : ℕ) (whole block : Part) (are : AreBlocks trees base i whole block) (words : IsTrue (has_word (sequence_of trees))) where
  abbrev front : List Tree
  front = are.front

  abbrev back : List Tree
  back = are.back

  both_words : IsTrue (has_word (sequence_of front)) × IsTrue (has_word (sequence_of back))
  both_words =
      let a = has_word_front trees i words in
      and_parts (has_word (sequence_of front)) (has_word (sequence_of back)) (sym (ap (λ ts. has_word (sequence_of ts)) are.are ∙ has_word-append front back) ∙ a)

  pub whole_count : length whole.follow.items ≡ size (sequence_of front)
  whole_count = row_count (IsWord (sequence_of front) base) base (size (sequence_of front)) whole are.whole_is.sets

  -- where the block begins
  pub block_start : base + length whole.follow.items ≡ base + size (sequence_of front)
  block_start = ap (λ n. base + n) whole_count

  pub whole_small : base + length whole.follow.items ≤ base + size (sequence_of trees)
  whole_small =
      let a = size_front trees i in
      let b = ap (λ ts. size (sequence_of ts)) are.are ∙ size-append front back in
      let c = whole_count in
      omega arith

  pub whole_within : (k e : ℕ) → k < length whole.last.items → (base ≤ get_or whole.last.items k e) × (get_or whole.last.items k e < base + length whole.follow.items)
  whole_within = last_within (IsWord (sequence_of front) base) base (size (sequence_of front)) whole are.whole_is.sets

  pub block_within : (k e : ℕ) → k < length block.last.items →
      (base + length whole.follow.items ≤ get_or block.last.items k e) × (get_or block.last.items k e < (base + length whole.follow.items) + length block.follow.items)
  block_within = rw block_start (last_within (IsWord (sequence_of back) (base + size (sequence_of front))) (base + size (sequence_of front)) (size (sequence_of back)) block are.block_is.sets)

  -- a block comes to what is joined
  both_joined : (new : Part) → IsJoined base (sets_of whole) whole.nullable (sets_of block) block.nullable (sets_of new) → new.nullable ≡ (whole.nullable && block.nullable) →
      IsPartOf (sequence_of (front ++ back)) base new
  both_joined new made both =
      joined_next (sequence_of front) (sequence_of back) (sequence_of (front ++ back)) base whole block new (append_words front back base) (size-append front back) (has_empty-append front back)
      are.whole_is are.block_is both_words.0 both_words.1 made both

  pub block_joined : (new next : Part) → IsJoined base (sets_of whole) whole.nullable (sets_of block) block.nullable (sets_of new) → new.nullable ≡ (whole.nullable && block.nullable) →
      sets_of next ≡ unused 0 → next.nullable ≡ true → AreBlocks trees base i new next
  block_joined new next made both e n = record {
    front = front ++ back;
    back = [];
    are = are.are ∙ sym (append-nil (front ++ back));
    whole_is = both_joined new made both;
    block_is = empty_sequence (base + size (sequence_of (front ++ back))) next e n;
  }

  pub all_joined : (new : Part) → take i trees ≡ trees → IsJoined base (sets_of whole) whole.nullable (sets_of block) block.nullable (sets_of new) →
      new.nullable ≡ (whole.nullable && block.nullable) → IsPartOf (sequence_of trees) base new
  all_joined new e made both = let d : front ++ back ≡ trees = sym are.are ∙ e in rw d at (both_joined new made both)

  -- a part comes to the block
  pub block_more : (parts : List Part) (next new : Part) → AreParts base trees parts → i < length parts → next ≡ get_or parts i next →
      IsJoined (base + length whole.follow.items) (sets_of block) block.nullable (sets_of next) next.nullable (sets_of new) → new.nullable ≡ (block.nullable && next.nullable) →
      AreBlocks trees base (i + 1) whole new
  block_more parts next new given l is made both = record {
    front = front;
    back = back ++ t ∷ [];
    are = taken ∙ (ap (λ ts. ts ++ t ∷ []) are.are ∙ append_assoc front back (t ∷ []));
    whole_is = are.whole_is;
    block_is =
        joined_next (sequence_of back) t (sequence_of (back ++ t ∷ [])) start block next new (sequence_words back t start) (size-sequence_of back t) (has_empty-sequence_of back t)
        are.block_is part both_words.1 one_word (rw block_start at made) both;
  }
    where
      t : Tree
      t = get_or trees i nothing

      start : ℕ
      start = base + size (sequence_of front)

      taken : take (i + 1) trees ≡ take i trees ++ t ∷ []
      taken = take_more trees i nothing (let e = parts_length base trees parts given in omega arith)

      one_word : IsTrue (has_word t)
      one_word =
          let a = has_word_front trees (i + 1) words in
          let e = ap (λ ts. has_word (sequence_of ts)) taken ∙ has_word-sequence_of (take i trees) t in
          (and_parts (has_word (sequence_of (take i trees))) (has_word t) (sym e ∙ a)).1

      part : IsPartOf t (start + size (sequence_of back)) next
      part =
          let p = part_at base trees parts i next given l is in
          let a = ap (λ ts. size (sequence_of ts)) are.are ∙ size-append front back in
          let z : base + size (sequence_of (take i trees)) ≡ (base + size (sequence_of front)) + size (sequence_of back) = omega arith in
          rw z at p
