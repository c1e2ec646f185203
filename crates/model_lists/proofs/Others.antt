-- What a change of one list leaves.
use Rattle.std.proofs.Common.{◌≡◌, ℕ, Option, Some, Result, Ok, Err, List, subst, ap}
use Rattle.std.specs.Prelude.{IfOk, OnOk, OnErr}
use Rattle.child_trees.specs.declared.leaf.Leaf.{Leaf}
use Rattle.child_trees.specs.Lists.{Lists, Entry, get, IsLive, Updates, AreEntries, AreNew}
use Rattle.model_lists.specs.Inside.{KeepsOthers, KeepsLive}

pub on-ok : {A E P Q : Type 0} (r : Result A E) → OnOk r P → (P → Q) → OnOk r Q
on-ok (Ok x) p f = f p
on-ok (Err e) p f = tt

pub on-err : {A E P Q : Type 0} (r : Result A E) → OnErr r P → (P → Q) → OnErr r Q
on-err (Ok x) p f = tt
on-err (Err e) p f = f p

module _ {Shape Map : Type 0} (v w : Lists Shape Map) where
  pub by-update : (list : ℕ) (xs : Option (List (Entry Map))) → Updates v w list xs → KeepsOthers v w list
  by-update list xs u = record { others = u.others; shape = u.shape }

  pub same-others : (list : ℕ) → w ≡ v → KeepsOthers v w list
  same-others list e = record { others = λ q d. ap (λ (v : Lists Shape Map). get v q) e; shape = ap (λ (v : Lists Shape Map). v.shape) e }

  pub same-live : w ≡ v → KeepsLive v w
  same-live e = record { lists = λ q l. ap (λ (v : Lists Shape Map). get v q) e; shape = ap (λ (v : Lists Shape Map). v.shape) e }

  -- a list that was not live takes the place of none
  new-live : (list : ℕ) (xs : Option (List (Entry Map))) → (IsLive v list → ⊥) → Updates v w list xs → KeepsLive v w
  new-live list xs fresh u = record { lists = λ q l. u.others q (λ e. fresh (l.0, subst (λ q. get v q ≡ Some l.0) e l.1)); shape = u.shape }

  pub made-live : {E Letter : Type 0} (unit : Map) (leaf : Letter → Map) (leaves : List (Leaf Letter)) (r : Result ℕ E) → IfOk r (λ q. IsLive v q → ⊥) →
      IfOk r (λ q. (xs : List (Entry Map)) × AreEntries unit leaf leaves xs × AreNew v xs × Updates v w q (Some xs)) → OnErr r (w ≡ v) → KeepsLive v w
  made-live unit leaf leaves (Ok q) fresh (xs, entries, new, u) same = new-live q (Some xs) fresh u
  made-live unit leaf leaves (Err e) fresh upd same = same-live same
