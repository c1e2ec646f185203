-- A member of a trial that stands before the one to start with is left out.
use Rattle.std.proofs.Common.{◌≡◌, ℕ, zero, suc, ◌+◌, ◌<◌, true, List, [], ◌∷◌, length, drop, Result, add-one, arith, rules}
use Rattle.std.specs.Prelude.{nat_lt}
use Rattle.xs_codes.specs.declared.code.Code.{Code}
use Rattle.facets.specs.declared.atomic.Accepted.{Accepted}
use Rattle.facets.specs.declared.members.Gate.{Gate}
use Rattle.facets.specs.Trying.{AreTried}

module _ {M : Type 0} (Reads : M → Result Accepted Code → Type 0) (gates : List Gate) where
  skipped : (members : List M) (n index start : ℕ) (outcome : Result Accepted Code) → n < length members → nat_lt index start ≡ true
      → AreTried Reads gates (index + 1) start (drop (suc n) members) outcome → AreTried Reads gates index start (drop n members) outcome
  skipped [] n index start outcome there behind tried = absurd (omega arith)
  skipped (m ∷ ms) zero index start outcome there behind tried = rw behind tried
  skipped (m ∷ ms) (suc n) index start outcome there behind tried = skipped ms n index start outcome (omega arith) behind tried

  pub skipped_on : (members : List M) (n index start : ℕ) (outcome : Result Accepted Code) → n < length members → index < start
      → AreTried Reads gates (index + 1) start (drop (n + 1) members) outcome → AreTried Reads gates index start (drop n members) outcome
  skipped_on members n index start outcome there behind tried =
      let test : nat_lt index start ≡ true = search rules in
      skipped members n index start outcome there test (rw (add-one n) at tried)
