-- A model unrolled has the words of positions of its expression over particles.
use Rattle.std.proofs.Common.{◌≡◌, ℕ, zero, suc, ◌+◌, ◌*◌, ◌↔◌, Option, Bool, true, false, List, [], ◌∷◌, ◌++◌, length, refl, sym, ap, subst, ◌∙◌, inl, inr, arith, if◌then◌else◌}
use Rattle.xs_positions.specs.Tree.{Tree, one, empty, chain, nothing, either, repeat, copies, size, times, symbols}
use Rattle.xs_positions.specs.PositionWords.{IsWord, Rounds, place}
use Rattle.xs_positions.specs.Positions.{Table, ArePositionsOf}
use Rattle.xs_positions.proofs.Spelling.{spelling_is}
use Rattle.xs_positions.proofs.Walking.{length-symbols}
use Rattle.particle_models.specs.Particles.{Particle, Particles, term, sequence, choice, all_of, occurs, none, member}
use Rattle.particle_models.specs.Unrolled.{count, wordless, positions_of, positions_in, unrolled, unrolled_chain, unrolled_either}
use Rattle.particle_models.specs.Sharing.{shared, shared_chain, shared_either, numbers_of, numbers_in}

-- the trees have the same size, and the same words of positions
pub record AreAlike (t u : Tree) : Type 0 where
  pub sizes : size t ≡ size u
  pub words : (b : ℕ) (w : List ℕ) → IsWord t b w ↔ IsWord u b w

term_alike : (b : Bool) (x y : ℕ) → AreAlike (if b then one x else wordless x) (if b then one y else wordless y)
term_alike true x y = record { sizes = refl; words = λ b w. ((λ h. h), (λ h. h)) }
term_alike false x y = record { sizes = refl; words = λ b w. ((λ h. h), (λ h. h)) }

same_alike : (t : Tree) → AreAlike t t
same_alike t = record { sizes = refl; words = λ b w. ((λ h. h), (λ h. h)) }

chain_alike : (s t u v : Tree) → AreAlike s u → AreAlike t v → AreAlike (chain s t) (chain u v)
chain_alike s t u v x y = record {
  sizes = (let a = x.sizes in let b = y.sizes in omega arith);
  words = λ b w. (
    (λ h. (h.0, h.1, h.2, (x.words b h.0).0 h.3, subst (λ (k : ℕ). IsWord v (b + k) h.1) x.sizes ((y.words (b + size s) h.1).0 h.4))),
    (λ h. (h.0, h.1, h.2, (x.words b h.0).1 h.3, subst (λ (k : ℕ). IsWord t (b + k) h.1) (sym x.sizes) ((y.words (b + size u) h.1).1 h.4))),
  );
}

either_alike : (s t u v : Tree) → AreAlike s u → AreAlike t v → AreAlike (either s t) (either u v)
either_alike s t u v x y = record {
  sizes = (let a = x.sizes in let b = y.sizes in omega arith);
  words = λ b w. (
    (λ h. elim h [
      | inl a ↦ inl ((x.words b w).0 a)
      | inr a ↦ inr (subst (λ (k : ℕ). IsWord v (b + k) w) x.sizes ((y.words (b + size s) w).0 a))
    ]),
    (λ h. elim h [
      | inl a ↦ inl ((x.words b w).1 a)
      | inr a ↦ inr (subst (λ (k : ℕ). IsWord t (b + k) w) (sym x.sizes) ((y.words (b + size u) w).1 a))
    ]),
  );
}

rounds_alike : (W V : ℕ → List ℕ → Type 0) → ((j : ℕ) (w : List ℕ) → W j w → V j w) → (k j : ℕ) (w : List ℕ) → Rounds W k j w → Rounds V k j w
rounds_alike W V f zero j w h = h
rounds_alike W V f (suc k) j w h = (h.0, h.1, h.2, f j h.0 h.3, rounds_alike W V f k (suc j) h.1 h.4)

repeat_alike : (s u : Tree) (least : ℕ) (most : Option ℕ) → AreAlike s u → AreAlike (repeat s least most) (repeat u least most)
repeat_alike s u least most x = record {
  sizes = ap (λ k. copies least most * k) x.sizes;
  words = λ b w. (
    (λ h. (
      h.0,
      h.1,
      rounds_alike (λ j v. IsWord s (place b (copies least most) (size s) j) v) (λ j v. IsWord u (place b (copies least most) (size u) j) v)
          (λ j v y. subst (λ (k : ℕ). IsWord u (place b (copies least most) k j) v) x.sizes ((x.words (place b (copies least most) (size s) j) v).0 y)) h.0 0 w h.2,
    )),
    (λ h. (
      h.0,
      h.1,
      rounds_alike (λ j v. IsWord u (place b (copies least most) (size u) j) v) (λ j v. IsWord s (place b (copies least most) (size s) j) v)
          (λ j v y. subst (λ (k : ℕ). IsWord s (place b (copies least most) k j) v) (sym x.sizes) ((x.words (place b (copies least most) (size u) j) v).1 y)) h.0 0 w h.2,
    )),
  );
}

term_size : (b : Bool) (next : ℕ) → size (if b then one next else wordless next) ≡ 1
term_size true next = refl
term_size false next = refl

term_symbols : (b : Bool) (next : ℕ) → symbols (if b then one next else wordless next) ≡ next ∷ []
term_symbols true next = refl
term_symbols false next = refl

join : (a b c d : List ℕ) → a ≡ c → b ≡ d → a ++ b ≡ c ++ d
join a b c d e f = ap (λ x. x ++ b) e ∙ ap (λ x. c ++ x) f

sum : (a b c d : ℕ) → a ≡ c → b ≡ d → a + b ≡ c + d
sum a b c d e f = omega arith

module _ (inhabited : ℕ → Bool) where
  mutual
    pub alike : (p : Particle) (next : ℕ) → AreAlike (unrolled inhabited p next) (shared inhabited p)
    alike (term number) next = term_alike (inhabited number) next number
    alike (sequence members) next = alike_chain members next
    alike (choice members) next = alike_either members next
    alike (all_of members) next = same_alike nothing
    alike (occurs least most part) next = repeat_alike (unrolled inhabited part next) (shared inhabited part) least most (alike part next)

    alike_chain : (ps : Particles) (next : ℕ) → AreAlike (unrolled_chain inhabited ps next) (shared_chain inhabited ps)
    alike_chain none next = same_alike empty
    alike_chain (member first rest) next =
        chain_alike (unrolled inhabited first next) (unrolled_chain inhabited rest (next + count first)) (shared inhabited first) (shared_chain inhabited rest) (alike first next) (alike_chain rest (next + count first))

    alike_either : (ps : Particles) (next : ℕ) → AreAlike (unrolled_either inhabited ps next) (shared_either inhabited ps)
    alike_either none next = same_alike nothing
    alike_either (member first rest) next =
        either_alike (unrolled inhabited first next) (unrolled_either inhabited rest (next + count first)) (shared inhabited first) (shared_either inhabited rest) (alike first next) (alike_either rest (next + count first))

  mutual
    pub size_of : (p : Particle) (next : ℕ) → size (unrolled inhabited p next) ≡ positions_of p
    size_of (term number) next = term_size (inhabited number) next
    size_of (sequence members) next = size_in members next
    size_of (choice members) next = size_one members next
    size_of (all_of members) next = refl
    size_of (occurs least most part) next = ap (λ k. copies least most * k) (size_of part next)

    size_in : (ps : Particles) (next : ℕ) → size (unrolled_chain inhabited ps next) ≡ positions_in ps
    size_in none next = refl
    size_in (member first rest) next = sum _ _ _ _ (size_of first next) (size_in rest (next + count first))

    size_one : (ps : Particles) (next : ℕ) → size (unrolled_either inhabited ps next) ≡ positions_in ps
    size_one none next = refl
    size_one (member first rest) next = sum _ _ _ _ (size_of first next) (size_one rest (next + count first))

  mutual
    pub symbols_are : (p : Particle) (next : ℕ) → symbols (unrolled inhabited p next) ≡ numbers_of p next
    symbols_are (term number) next = term_symbols (inhabited number) next
    symbols_are (sequence members) next = symbols_in members next
    symbols_are (choice members) next = symbols_one members next
    symbols_are (all_of members) next = refl
    symbols_are (occurs least most part) next = ap (times (copies least most)) (symbols_are part next)

    symbols_in : (ps : Particles) (next : ℕ) → symbols (unrolled_chain inhabited ps next) ≡ numbers_in ps next
    symbols_in none next = refl
    symbols_in (member first rest) next = join _ _ _ _ (symbols_are first next) (symbols_in rest (next + count first))

    symbols_one : (ps : Particles) (next : ℕ) → symbols (unrolled_either inhabited ps next) ≡ numbers_in ps next
    symbols_one none next = refl
    symbols_one (member first rest) next = join _ _ _ _ (symbols_are first next) (symbols_one rest (next + count first))

  -- the positions of the one are those of the other
  module _ (p : Particle) (table : Table) (are : ArePositionsOf (shared inhabited p) table) where
    abbrev t : Tree
    t = unrolled inhabited p 0

    same : (w : List ℕ) → IsWord t 0 w ↔ IsWord (shared inhabited p) 0 w
    same w = (alike p 0).words 0 w

    sizes : size t ≡ size (shared inhabited p)
    sizes = (alike p 0).sizes

    pub renumbered : (numbers : List ℕ) → numbers ≡ numbers_of p 0 → ArePositionsOf t (record table { symbols = numbers })
    renumbered numbers e =
        let s : numbers ≡ symbols t = e ∙ sym (symbols_are p 0) in record {
          symbols = s;
          nullable = ((λ h. (same []).1 (are.nullable.0 h)), (λ h. are.nullable.1 ((same []).0 h)));
          first = λ p. ((λ c. let b = (are.first p).0 c in (b.0, (same _).1 b.1)), (λ b. (are.first p).1 (b.0, (same _).0 b.1)));
          last = λ p. ((λ c. let b = (are.last p).0 c in (b.0, (same _).1 b.1)), (λ b. (are.last p).1 (b.0, (same _).0 b.1)));
          follow = λ p q l. (
            (λ c. let b = (are.follow p q (rw sizes at l)).0 c in (b.0, b.1, (same _).1 b.2)),
            (λ b. (are.follow p q (rw sizes at l)).1 (b.0, b.1, (same _).0 b.2)),
          );
          useful = λ p l. (
            (λ c. let b = (are.useful p (rw sizes at l)).0 c in (b.0, b.1, (same _).1 b.2)),
            (λ b. (are.useful p (rw sizes at l)).1 (b.0, b.1, (same _).0 b.2)),
          );
          exchange = λ front rest other more p a b. (same _).1 (are.exchange front rest other more p ((same _).0 a) ((same _).0 b));
          spelling = spelling_is t numbers s;
          count = ap length s ∙ length-symbols t;
          within = λ p h. rw sizes (are.within p (h.0, h.1, (same _).0 h.2));
          first_rises = are.first_rises;
          last_rises = are.last_rises;
          follow_rises = are.follow_rises;
        }

  -- the expression has as many positions as the model
  pub shared_size : (p : Particle) → size (shared inhabited p) ≡ positions_of p
  shared_size p = sym (alike p 0).sizes ∙ size_of p 0
