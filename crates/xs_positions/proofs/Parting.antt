-- The parts of expressions, one after the other.
use Rattle.std.proofs.Common.{◌≡◌, ℕ, zero, suc, ◌+◌, ◌*◌, ◌<◌, ◌≤◌, ◌^◌, List, [], ◌∷◌, ◌++◌, length, get_or, take, drop, replicate, sym, refl, ap, ◌∙◌, arith, suc-mul, zero-mul}
use Rattle.xs_positions.specs.Tree.{Tree, nothing, size, sequence_of}
use Rattle.xs_positions.specs.Parts.{IsPartOf, AreParts}
use Rattle.xs_positions.specs.declared.sets.Part.{Part}

pub parts_length : (base : ℕ) (ts : List Tree) (ps : List Part) → AreParts base ts ps → length ps ≡ length ts
parts_length base [] [] h = refl
parts_length base [] (p ∷ ps) h = absurd h
parts_length base (t ∷ ts) [] h = absurd h
parts_length base (t ∷ ts) (p ∷ ps) h = ap suc (parts_length (base + size t) ts ps h.1)

-- the part at an index
pub part_at : (base : ℕ) (ts : List Tree) (ps : List Part) (i : ℕ) (p : Part) → AreParts base ts ps → i < length ps → p ≡ get_or ps i p →
    IsPartOf (get_or ts i nothing) (base + size (sequence_of (take i ts))) p
part_at base [] [] i p h l e = absurd (omega arith)
part_at base [] (q ∷ ps) i p h l e = absurd h
part_at base (t ∷ ts) [] i p h l e = absurd h
part_at base (t ∷ ts) (q ∷ ps) zero p h l e = let z : base + 0 ≡ base = omega arith in rw (z, e) h.0
part_at base (t ∷ ts) (q ∷ ps) (suc i) p h l e =
    let r = part_at (base + size t) ts ps i p h.1 (omega arith) e in
    let z : base + (size t + size (sequence_of (take i ts))) ≡ (base + size t) + size (sequence_of (take i ts)) = omega arith in
    rw z r

-- a part more
pub part_pushed : (base : ℕ) (ts : List Tree) (ps : List Part) (t : Tree) (p : Part) → AreParts base ts ps → IsPartOf t (base + size (sequence_of ts)) p →
    AreParts base (ts ++ t ∷ []) (ps ++ p ∷ [])
part_pushed base [] [] t p h d = let z : base + 0 ≡ base = omega arith in (rw z at d, tt)
part_pushed base [] (q ∷ ps) t p h d = absurd h
part_pushed base (s ∷ ts) [] t p h d = absurd h
part_pushed base (s ∷ ts) (q ∷ ps) t p h d =
    let z : base + (size s + size (sequence_of ts)) ≡ (base + size s) + size (sequence_of ts) = omega arith in
    (h.0, part_pushed (base + size s) ts ps t p h.1 (rw z at d))

-- the parts of a front, and the rest
pub parts_split : (base : ℕ) (front ts : List Tree) (ps : List Part) → AreParts base (front ++ ts) ps →
    AreParts base front (take (length front) ps) × AreParts (base + size (sequence_of front)) ts (drop (length front) ps)
parts_split base [] ts ps h = let z : base + 0 ≡ base = omega arith in (tt, rw z h)
parts_split base (f ∷ front) ts [] h = absurd h
parts_split base (f ∷ front) ts (p ∷ ps) h =
    let r = parts_split (base + size f) front ts ps h.1 in
    let z : base + (size f + size (sequence_of front)) ≡ (base + size f) + size (sequence_of front) = omega arith in
    ((h.0, r.0), rw z r.1)

pub copies_size : (n : ℕ) (t : Tree) → size (sequence_of (replicate n t)) ≡ n * size t
copies_size zero t = sym (zero-mul (size t))
copies_size (suc n) t = let a = copies_size n t in let b : suc n * size t ≡ n * size t + size t = suc-mul n (size t) in omega arith

take_copies : (i n : ℕ) (t : Tree) → i ≤ n → take i (replicate n t) ≡ replicate i t
take_copies zero n t l = refl
take_copies (suc i) zero t l = absurd (omega arith)
take_copies (suc i) (suc n) t l = ap (λ ts. t ∷ ts) (take_copies i n t (omega arith))

copy_at : (i n : ℕ) (t d : Tree) → i < n → get_or (replicate n t) i d ≡ t
copy_at i zero t d l = absurd (omega arith)
copy_at zero (suc n) t d l = refl
copy_at (suc i) (suc n) t d l = copy_at i n t d (omega arith)

length_copies : (n : ℕ) (t : Tree) → length (replicate n t) ≡ n
length_copies zero t = refl
length_copies (suc n) t = ap suc (length_copies n t)

-- a copy of a part
pub copy_part : (base n : ℕ) (t : Tree) (ps : List Part) (i : ℕ) (p : Part) → AreParts base (replicate n t) ps → i < length ps → p ≡ get_or ps i p →
    IsPartOf t (base + i * size t) p
copy_part base n t ps i p h l e =
    let c : length ps ≡ n = parts_length base (replicate n t) ps h ∙ length_copies n t in
    let s : size (sequence_of (take i (replicate n t))) ≡ i * size t = ap (λ ts. size (sequence_of ts)) (take_copies i n t (omega arith)) ∙ copies_size i t in
    let d = part_at base (replicate n t) ps i p h l e in
    rw (copy_at i n t nothing (omega arith), s) at d

pub copies_count : (base n : ℕ) (t : Tree) (ps : List Part) → AreParts base (replicate n t) ps → length ps ≡ n
copies_count base n t ps h = parts_length base (replicate n t) ps h ∙ length_copies n t

pub counted_copies : (base n : ℕ) (t : Tree) (ps : List Part) → AreParts base (replicate n t) ps → AreParts base (replicate (length ps) t) ps
counted_copies base n t ps h = rw (copies_count base n t ps h) h

pub before_fits : (base n k s len : ℕ) → n ≡ k + 1 → base + n * s < 2 ^ 32 → len ≡ k * s → base + len < 2 ^ 32
before_fits base n k s len e l m = let a : n * s ≡ k * s + s = (let b : n ≡ suc k = omega arith in rw b (suc-mul k s)) in omega arith

pub all_fit : (base n k s len last : ℕ) → n ≡ k + 1 → base + n * s < 2 ^ 32 → len ≡ k * s → last ≡ s → (base + len) + last < 2 ^ 32
all_fit base n k s len last e l m f = let a : n * s ≡ k * s + s = (let b : n ≡ suc k = omega arith in rw b (suc-mul k s)) in omega arith

-- the last of some copies, and those before it
pub last_copy : (base n : ℕ) (t : Tree) (ps : List Part) (p : Part) → AreParts base (replicate n t) (ps ++ p ∷ []) →
    (n ≡ length ps + 1) × AreParts base (replicate (length ps) t) ps × IsPartOf t (base + length ps * size t) p
last_copy base zero t [] p h = absurd h
last_copy base (suc zero) t [] p h = (refl, tt, (let z : base + 0 * size t ≡ base = (let m = zero-mul (size t) in omega arith) in rw z h.0))
last_copy base (suc (suc n)) t [] p h = absurd h.1
last_copy base zero t (q ∷ ps) p h = absurd h
last_copy base (suc n) t (q ∷ ps) p h =
    let r = last_copy (base + size t) n t ps p h.1 in
    let z : base + suc (length ps) * size t ≡ (base + size t) + length ps * size t = (let m = suc-mul (length ps) (size t) in omega arith) in
    ((let e = r.0 in omega arith), (h.0, r.1), rw z r.2)
