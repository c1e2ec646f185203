-- Models unrolled by the same flags.
use Rattle.std.proofs.Common.{◌≡◌, ℕ, ◌+◌, Bool, if◌then◌else◌, refl, ap, subst}
use Rattle.std.specs.Prelude.{Result, Ok, Err, IfOk}
use Rattle.xs_positions.specs.Tree.{one, repeat}
use Rattle.xs_positions.specs.Positions.{ArePositionsOf}
use Rattle.particle_models.specs.Particles.{Particle, Particles, term, sequence, choice, all_of, occurs, none, member}
use Rattle.particle_models.specs.Unrolled.{wordless, count, unrolled, unrolled_chain, unrolled_either}
use Rattle.particle_models.specs.Model.{UnrolledModel, IsUnrolled}

module _ (f g : ℕ → Bool) (same : (id : ℕ) → f id ≡ g id) where
  mutual
    unrolled-same : (p : Particle) (next : ℕ) → unrolled f p next ≡ unrolled g p next
    unrolled-same (term number) next = ap (λ b. if b then one next else wordless next) (same number)
    unrolled-same (sequence members) next = chain-same members next
    unrolled-same (choice members) next = either-same members next
    unrolled-same (all_of members) next = refl
    unrolled-same (occurs least most part) next = ap (λ t. repeat t least most) (unrolled-same part next)

    chain-same : (ps : Particles) (next : ℕ) → unrolled_chain f ps next ≡ unrolled_chain g ps next
    chain-same none next = refl
    chain-same (member first rest) next =
        let a = unrolled-same first next in let b = chain-same rest (next + count first) in
        cc

    either-same : (ps : Particles) (next : ℕ) → unrolled_either f ps next ≡ unrolled_either g ps next
    either-same none next = refl
    either-same (member first rest) next =
        let a = unrolled-same first next in let b = either-same rest (next + count first) in
        cc

  is_unrolled : (p q : Particle) → p ≡ q → (u : UnrolledModel) → IsUnrolled f p u → IsUnrolled g q u
  is_unrolled p q e u is = subst (λ q. IsUnrolled g q u) e (record {
    terms = is.terms;
    positions = subst (λ t. ArePositionsOf t u.table) (unrolled-same p 0) is.positions;
  })

weaker : {U E F : Type 0} (P Q : U → Type 0) → ((u : U) → P u → Q u) → (r : Result (Result U E) F) → IfOk r (λ a. IfOk a P) → IfOk r (λ a. IfOk a Q)
weaker P Q f (Ok (Ok u)) h = f u h
weaker P Q f (Ok (Err e)) h = tt
weaker P Q f (Err e) h = tt

pub unrolled-moved : {E F : Type 0} (f g : ℕ → Bool) → ((id : ℕ) → f id ≡ g id) → (p q : Particle) → p ≡ q → (r : Result (Result UnrolledModel E) F) → IfOk r (λ a. IfOk a (IsUnrolled f p)) → IfOk r (λ a. IfOk a (IsUnrolled g q))
unrolled-moved f g same p q e r h = weaker (IsUnrolled f p) (IsUnrolled g q) (is_unrolled f g same p q e) r h
