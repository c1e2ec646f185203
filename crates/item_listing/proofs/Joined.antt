-- Lines joined by line feeds are the bytes, and no line has a line feed.
use Rattle.std.proofs.Common.{◌≡◌, ℕ, List, [], ◌∷◌, ◌++◌, Bool, true, false, ◌||◌, refl, ap, ◌∙◌, arith}
use Rattle.std.specs.List.{list_any}
use Rattle.std.proofs.lemmas.Bool.Decides.{nat_tests}
use Rattle.item_listing.specs.Lines.{Cut, cut, longer, joined, HaveNoFeed}
use Rattle.item_listing.proofs.Cutting.{is_feed}

joined-longer : (b : ℕ) (whole : List (List ℕ)) (begun : List ℕ) → joined (longer b whole begun).whole (longer b whole begun).begun ≡ b ∷ joined whole begun
joined-longer b [] begun = refl
joined-longer b (line ∷ lines) begun = refl

joined-step : (b : ℕ) (bs : List ℕ) → joined (cut bs).whole (cut bs).begun ≡ bs → (t : Bool) → is_feed b ≡ t → joined (cut (b ∷ bs)).whole (cut (b ∷ bs)).begun ≡ b ∷ bs
joined-step b bs later true e = let feed : 10 ≡ b = grind (arith, nat_tests) in rw e (ap (λ l. 10 ∷ l) later ∙ ap (λ c. c ∷ bs) feed)
joined-step b bs later false e = rw e (joined-longer b (cut bs).whole (cut bs).begun ∙ ap (λ l. b ∷ l) later)

pub joined-cut : (xs : List ℕ) → joined (cut xs).whole (cut xs).begun ≡ xs
joined-cut [] = refl
joined-cut (b ∷ bs) = joined-step b bs (joined-cut bs) (is_feed b) refl

pub or_first : (a b : Bool) → (a || b) ≡ false → a ≡ false
or_first false b e = refl
or_first true b e = cc

pub or_second : (a b : Bool) → (a || b) ≡ false → b ≡ false
or_second false b e = e
or_second true b e = cc

cut-begun_only : (begun : List ℕ) → list_any is_feed begun ≡ false → cut begun ≡ record { whole = []; begun = begun }
cut-begun_only [] e = refl
cut-begun_only (b ∷ bs) e = rw (or_first (is_feed b) (list_any is_feed bs) e) (ap (λ c. longer b c.whole c.begun) (cut-begun_only bs (or_second (is_feed b) (list_any is_feed bs) e)))

cut-line : (line rest : List ℕ) → list_any is_feed line ≡ false → cut (line ++ 10 ∷ rest) ≡ record { whole = line ∷ (cut rest).whole; begun = (cut rest).begun }
cut-line [] rest e = refl
cut-line (b ∷ bs) rest e = rw (or_first (is_feed b) (list_any is_feed bs) e) (ap (λ c. longer b c.whole c.begun) (cut-line bs rest (or_second (is_feed b) (list_any is_feed bs) e)))

pub cut-joined : (lines : List (List ℕ)) (begun : List ℕ) → HaveNoFeed lines → list_any is_feed begun ≡ false → cut (joined lines begun) ≡ record { whole = lines; begun = begun }
cut-joined [] begun n e = cut-begun_only begun e
cut-joined (line ∷ lines) begun n e =
    cut-line line (joined lines begun) n.0 ∙ ap (λ (c : Cut). record { whole = line ∷ c.whole; begun = c.begun }) (cut-joined lines begun n.1 e)
