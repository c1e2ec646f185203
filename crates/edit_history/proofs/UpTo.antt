-- No revision that is kept of turns is later than the last of them.
use Rattle.std.proofs.Common.{◌≡◌, ℕ, ◌≤◌, Bool, true, false, cond, max, List, [], ◌∷◌, Option, None, Some, IfSome, All, subst, arith}
use Rattle.std.proofs.lemmas.List.Elements.{All-head, All-tail}
use Rattle.edit_history.specs.Turns.{Turn, later, latest}
use Rattle.edit_history.specs.Table.{Touches, touch_of, touches, IsLatest, StandFor, AreUpTo}
use Rattle.edit_history.specs.declared.touch.Touch.{Touch}
use Rattle.edit_history.specs.Logged.{AreNoLater}

abbrev IsUpTo : ℕ → Option ℕ → Type 0
IsUpTo n o = IfSome o (λ m. m ≤ n)

later_up_to : (n : ℕ) (a b : Option ℕ) → IsUpTo n a → IsUpTo n b → IsUpTo n (later a b)
later_up_to n None b h k = k
later_up_to n (Some a) None h k = h
later_up_to n (Some a) (Some b) h k = grind arith

cond_up_to : (n : ℕ) (c : Bool) (a b : Option ℕ) → IsUpTo n a → IsUpTo n b → IsUpTo n (cond c a b)
cond_up_to n true a b h k = h
cond_up_to n false a b h k = k

latest_up_to : (test : Turn → Bool) (ts : List Turn) (n : ℕ) → AreNoLater ts n → IsUpTo n (latest test ts)
latest_up_to test [] n h = tt
latest_up_to test (t ∷ ts) n h =
    let IsNoLater : Turn → Type 0 = λ s. s.revision ≤ n in
    let rest = latest_up_to test ts n (All-tail IsNoLater t ts h) in
    cond_up_to n (test t) (later (Some t.revision) (latest test ts)) (latest test ts) (later_up_to n (Some t.revision) (latest test ts) (All-head IsNoLater t ts h) rest) rest

kept_up_to : (o : Option Touch) (test : Turn → Bool) (ts : List Turn) (n : ℕ) → IsLatest o test ts → AreNoLater ts n → IfSome o (λ touch. touch.revision ≤ n)
kept_up_to None test ts n is h = tt
kept_up_to (Some touch) test ts n is h = subst (IsUpTo n) is.0 (latest_up_to test ts n h)

pub up_to : (all : Touches) (ts : List Turn) (n : ℕ) → StandFor all ts → AreNoLater ts n → AreUpTo all n
up_to all ts n stands h key = kept_up_to (touch_of all key) (touches key) ts n (stands key) h
