-- The walk that numbers the terms: what its tasks come to.
use Rattle.std.proofs.Common.{◌≡◌, ℕ, zero, suc, ◌+◌, ◌-◌, ◌<◌, ◌≤◌, ◌^◌, max, min, Option, None, Some, true, false, List, [], ◌∷◌, ◌++◌, map, length, get_or, take, drop, refl, sym, ap, subst, ◌∙◌, inl, inr, arith, append_assoc, append-nil, length-append, take_all, eqb-true}
use Rattle.std.specs.Prelude.{All, unwrap_or}
use Rattle.std.proofs.lemmas.Bool.{false≢true, cases_lt}
use Rattle.std.proofs.lemmas.List.{drop_more, length-drop, get_or_append_left}
use Rattle.std.proofs.lemmas.List.Elements.{All-push}
use Rattle.xs_positions.specs.Tree.{copies, times}
use Rattle.particle_models.specs.Particles.{Particle, Particles, term, sequence, choice, all_of, occurs, none, member}
use Rattle.particle_models.specs.Unrolled.{count, count_in}
use Rattle.particle_models.specs.Nodes.{members_of, model_of, models_from, model_in, IsOrdered}
use Rattle.particle_models.specs.Sharing.{numbers_of, numbers_in, terms_of, terms_in}
use Rattle.particle_models.specs.Numbering.{State, no_terms, entered, all_entered, done, outcome, IsTaskWithin, weight, weight_in, task_weight, weight_of, members_weight, has_no_terms}
use Rattle.particle_models.specs.declared.node.Node.{Node}
use Rattle.particle_models.specs.declared.node.Node.TheVariants.{Term, Sequence, Choice, Each, Occurs}
use Rattle.particle_models.specs.declared.numbering.Task.{Task}
use Rattle.particle_models.specs.declared.numbering.Task.TheVariants.{Enter, Copy}
use Rattle.particle_models.proofs.Growing.{model_is}

mutual
  pub length_terms : (p : Particle) → length (terms_of p) ≡ count p
  length_terms (term number) = refl
  length_terms (sequence members) = length_terms_in members
  length_terms (choice members) = length_terms_in members
  length_terms (all_of members) = refl
  length_terms (occurs least None part) = length_terms part
  length_terms (occurs least (Some zero) part) = refl
  length_terms (occurs least (Some (suc most)) part) = length_terms part

  length_terms_in : (ps : Particles) → length (terms_in ps) ≡ count_in ps
  length_terms_in none = refl
  length_terms_in (member first rest) =
      let a = length_terms first in let b = length_terms_in rest in
      length-append (terms_of first) (terms_in rest) ∙ (let z : length (terms_of first) + length (terms_in rest) ≡ count first + count_in rest = omega arith in z)

pub state_is : (a b c d : List ℕ) → a ≡ c → b ≡ d → (let s : State = record { numbers = a; terms = b } in s) ≡ record { numbers = c; terms = d }
state_is a b c d e f = cc

empty_list : (xs : List ℕ) → length xs ≡ 0 → xs ≡ []
empty_list [] e = refl
empty_list (x ∷ xs) e = absurd (omega arith)

times_none : (n : ℕ) → times n [] ≡ []
times_none zero = refl
times_none (suc n) = times_none n

mutual
  numbers_none : (p : Particle) (next : ℕ) → count p ≡ 0 → numbers_of p next ≡ []
  numbers_none (term number) next e = absurd (omega arith)
  numbers_none (sequence members) next e = numbers_none_in members next e
  numbers_none (choice members) next e = numbers_none_in members next e
  numbers_none (all_of members) next e = refl
  numbers_none (occurs least None part) next e = ap (times (copies least None)) (numbers_none part next e) ∙ times_none (copies least None)
  numbers_none (occurs least (Some zero) part) next e = refl
  numbers_none (occurs least (Some (suc most)) part) next e = ap (times (suc most)) (numbers_none part next e) ∙ times_none (suc most)

  numbers_none_in : (ps : Particles) (next : ℕ) → count_in ps ≡ 0 → numbers_in ps next ≡ []
  numbers_none_in none next e = refl
  numbers_none_in (member first rest) next e =
      let a : numbers_of first next ≡ [] = numbers_none first next (omega arith) in
      let b : numbers_in rest (next + count first) ≡ [] = numbers_none_in rest (next + count first) (omega arith) in
      rw (a, b) refl

-- ---- tasks
module _ (nodes : List Node) where
  pub outcome_push : (ts : List Task) (t : Task) (s : State) → outcome nodes (ts ++ t ∷ []) s ≡ outcome nodes ts (done nodes t s)
  outcome_push [] t s = refl
  outcome_push (u ∷ ts) t s = ap (done nodes u) (outcome_push ts t s)

  pub weight_push : (ts : List Task) (t : Task) → weight_of nodes (ts ++ t ∷ []) ≡ weight_of nodes ts + task_weight nodes t
  weight_push [] t = omega arith
  weight_push (u ∷ ts) t = let r = weight_push ts t in omega arith

  done_grows : (t : Task) (s : State) → length s.terms ≤ length (done nodes t s).terms
  done_grows (Enter id) s = let e = length-append s.terms (terms_of (model_in nodes id)) in omega arith
  done_grows (Copy from more) s = omega arith

  pub outcome_grows : (ts : List Task) (s : State) → length s.terms ≤ length (outcome nodes ts s).terms
  outcome_grows [] s = omega arith
  outcome_grows (t ∷ ts) s = let a = outcome_grows ts s in let b = done_grows t (outcome nodes ts s) in omega arith

  pub members_entered : (ids : List ℕ) (s : State) →
      all_entered nodes ids s ≡ record { numbers = s.numbers ++ numbers_in (members_of (map (model_in nodes) ids)) (length s.terms); terms = s.terms ++ terms_in (members_of (map (model_in nodes) ids)) }
  members_entered [] s = state_is s.numbers s.terms _ _ (sym (append-nil s.numbers)) (sym (append-nil s.terms))
  members_entered (id ∷ ids) s =
      let p : Particle = model_in nodes id in
      let ps : Particles = members_of (map (model_in nodes) ids) in
      let n : length (s.terms ++ terms_of p) ≡ length s.terms + count p = length-append s.terms (terms_of p) ∙ ap (λ k. length s.terms + k) (length_terms p) in
      members_entered ids (entered nodes id s) ∙ state_is _ _ _ _
      (append_assoc s.numbers (numbers_of p (length s.terms)) (numbers_in ps (length (s.terms ++ terms_of p))) ∙ ap (λ k. s.numbers ++ (numbers_of p (length s.terms) ++ numbers_in ps k)) n)
      (append_assoc s.terms (terms_of p) (terms_in ps))

  members_weight_is : (ids : List ℕ) → members_weight nodes ids ≡ weight_in (members_of (map (model_in nodes) ids))
  members_weight_is [] = refl
  members_weight_is (id ∷ ids) = ap (λ k. weight (model_in nodes id) + k) (members_weight_is ids)

  -- ---- the members of a group, from the last one on
  pub member_left : (members : List ℕ) (i : ℕ) → i < length members → drop i members ≡ get_or members i 0 ∷ drop (i + 1) members
  member_left members i l = drop_more members i 0 l

weight_some : (p : Particle) → 0 < weight p
weight_some (term number) = omega arith
weight_some (sequence members) = omega arith
weight_some (choice members) = omega arith
weight_some (all_of members) = omega arith
weight_some (occurs least most part) = omega arith

-- ---- one node
module _ (nodes : List Node) (id : ℕ) (ts : List Task) (s : State) where
  pub weight_less : weight_of nodes ts < weight_of nodes ts + weight (model_in nodes id)
  weight_less = let w = weight_some (model_in nodes id) in omega arith

  pub none_entered : has_no_terms (model_in nodes id) ≡ true → entered nodes id s ≡ s
  none_entered e =
      let c : count (model_in nodes id) ≡ 0 = eqb-true (count (model_in nodes id)) 0 e in
      let t : terms_of (model_in nodes id) ≡ [] = empty_list (terms_of (model_in nodes id)) (length_terms (model_in nodes id) ∙ c) in
      state_is _ _ s.numbers s.terms
      (ap (λ xs. s.numbers ++ xs) (numbers_none (model_in nodes id) (length s.terms) c) ∙ append-nil s.numbers)
      (ap (λ xs. s.terms ++ xs) t ∙ append-nil s.terms)

  module _ (node : Node) (ordered : IsOrdered nodes) (l : id < length nodes) (is : node ≡ get_or nodes id node) where
    model : (other : Node) → node ≡ other → model_in nodes id ≡ model_of (models_from [] nodes) other
    model other e = model_is nodes id node ordered l ∙ ap (model_of (models_from [] nodes)) (sym is ∙ e)

    pub term_entered : (number : ℕ) → node ≡ Term number → entered nodes id s ≡ record { numbers = s.numbers ++ length s.terms ∷ []; terms = s.terms ++ number ∷ [] }
    term_entered number e = ap (λ p. (let t : State = record { numbers = s.numbers ++ numbers_of p (length s.terms); terms = s.terms ++ terms_of p } in t)) (model (Term number) e)

    pub term_fits : (number : ℕ) → node ≡ Term number → length (outcome nodes ts (entered nodes id s)).terms < 2 ^ 32 → length s.terms < 2 ^ 32
    term_fits number e fits =
        let a = outcome_grows nodes ts (entered nodes id s) in
        let b = ap (λ t. length (State.terms t)) (term_entered number e) in
        let c = length-append s.terms (number ∷ []) in omega arith

    pub each_entered : (members : List ℕ) → node ≡ Each members → entered nodes id s ≡ s
    each_entered members e =
        ap (λ p. (let t : State = record { numbers = s.numbers ++ numbers_of p (length s.terms); terms = s.terms ++ terms_of p } in t)) (model (Each members) e) ∙
        state_is _ _ s.numbers s.terms (append-nil s.numbers) (append-nil s.terms)

    pub sequence_entered : (members : List ℕ) → node ≡ Sequence members → all_entered nodes members s ≡ entered nodes id s
    sequence_entered members e =
        members_entered nodes members s ∙
        sym (ap (λ p. (let t : State = record { numbers = s.numbers ++ numbers_of p (length s.terms); terms = s.terms ++ terms_of p } in t)) (model (Sequence members) e))

    pub choice_entered : (members : List ℕ) → node ≡ Choice members → all_entered nodes members s ≡ entered nodes id s
    choice_entered members e =
        members_entered nodes members s ∙
        sym (ap (λ p. (let t : State = record { numbers = s.numbers ++ numbers_of p (length s.terms); terms = s.terms ++ terms_of p } in t)) (model (Choice members) e))

    pub sequence_weight : (members : List ℕ) → node ≡ Sequence members → weight_of nodes ts + members_weight nodes members < weight_of nodes ts + weight (model_in nodes id)
    sequence_weight members e = let m = ap weight (model (Sequence members) e) in let n = members_weight_is nodes members in omega arith

    pub choice_weight : (members : List ℕ) → node ≡ Choice members → weight_of nodes ts + members_weight nodes members < weight_of nodes ts + weight (model_in nodes id)
    choice_weight members e = let m = ap weight (model (Choice members) e) in let n = members_weight_is nodes members in omega arith

    pub some_copy : (part least : ℕ) (most : Option ℕ) → node ≡ Occurs part least most → has_no_terms (model_in nodes id) ≡ false → 1 ≤ unwrap_or most (max least 1)
    some_copy part least None e h = omega arith
    some_copy part least (Some zero) e h = absurd (false≢true (sym h ∙ ap has_no_terms (model (Occurs part least (Some zero)) e)))
    some_copy part least (Some (suc most)) e h = omega arith

    copied : (xs ns : List ℕ) (more : ℕ) → (xs ++ ns) ++ times more (drop (length xs) (xs ++ ns)) ≡ xs ++ times (suc more) ns
    copied xs ns more = append_assoc xs ns (times more (drop (length xs) (xs ++ ns))) ∙ ap (λ ys. xs ++ (ns ++ times more ys)) (behind xs)
      where
        behind : (xs : List ℕ) → drop (length xs) (xs ++ ns) ≡ ns
        behind [] = refl
        behind (x ∷ xs) = behind xs

    occurs_cases : (part least : ℕ) (most : Option ℕ) (more : ℕ) → node ≡ Occurs part least most → has_no_terms (model_in nodes id) ≡ false → more ≡ unwrap_or most (max least 1) - 1 →
        (numbers_of (model_in nodes id) (length s.terms) ≡ times (suc more) (numbers_of (model_in nodes part) (length s.terms))) × (terms_of (model_in nodes id) ≡ terms_of (model_in nodes part))
    occurs_cases part least None more e h m =
        let k : max least 1 ≡ suc more = omega arith in
        (ap (λ p. numbers_of p (length s.terms)) (model (Occurs part least None) e) ∙ ap (λ k. times k (numbers_of (model_in nodes part) (length s.terms))) k, ap terms_of (model (Occurs part least None) e))
    occurs_cases part least (Some zero) more e h m = absurd (false≢true (sym h ∙ ap has_no_terms (model (Occurs part least (Some zero)) e)))
    occurs_cases part least (Some (suc most)) more e h m =
        let k : suc most ≡ suc more = omega arith in (
          ap (λ p. numbers_of p (length s.terms)) (model (Occurs part least (Some (suc most))) e) ∙ ap (λ k. times k (numbers_of (model_in nodes part) (length s.terms))) k,
          ap terms_of (model (Occurs part least (Some (suc most))) e),
        )

    pub occurs_entered : (part least : ℕ) (most : Option ℕ) (more from : ℕ) (ts' ts'' : List Task) → node ≡ Occurs part least most → has_no_terms (model_in nodes id) ≡ false →
        more ≡ unwrap_or most (max least 1) - 1 → from ≡ length s.numbers → ts' ≡ ts ++ Copy from more ∷ [] → ts'' ≡ ts' ++ Enter part ∷ [] → outcome nodes ts'' s ≡ outcome nodes ts (entered nodes id s)
    occurs_entered part least most more from ts' ts'' e h m f p q =
        let c = occurs_cases part least most more e h m in
        let n : List ℕ = numbers_of (model_in nodes part) (length s.terms) in
        ap (λ ts. outcome nodes ts s) q ∙ (outcome_push nodes ts' (Enter part) s ∙ (ap (λ ts. outcome nodes ts (entered nodes part s)) p ∙ (outcome_push nodes ts (Copy from more) (entered nodes part s) ∙
        ap (outcome nodes ts) (state_is _ _ _ _
        (ap (λ k. (s.numbers ++ n) ++ times more (drop k (s.numbers ++ n))) f ∙ (copied s.numbers n more ∙ ap (λ xs. s.numbers ++ xs) (sym c.0)))
        (ap (λ xs. s.terms ++ xs) (sym c.1))))))

    pub occurs_weight : (part least : ℕ) (most : Option ℕ) (more from : ℕ) (ts' ts'' : List Task) → node ≡ Occurs part least most → ts' ≡ ts ++ Copy from more ∷ [] → ts'' ≡ ts' ++ Enter part ∷ [] →
        weight_of nodes ts'' < weight_of nodes ts + weight (model_in nodes id)
    occurs_weight part least most more from ts' ts'' e p q =
        let a = ap (weight_of nodes) q in let b = weight_push nodes ts' (Enter part) in let c = ap (weight_of nodes) p in let d = weight_push nodes ts (Copy from more) in
        let m = ap weight (model (Occurs part least most) e) in omega arith

-- ---- the members pushed, from the last one on
module _ (members : List ℕ) (left : ℕ) (olds now new : List Task) (some : 0 < left) (fits : left ≤ length members) (push : new ≡ now ++ Enter (get_or members (left - 1) 0) ∷ []) where
  abbrev i : ℕ
  i = left - 1

  rest : drop i members ≡ get_or members i 0 ∷ drop left members
  rest = drop_more members i 0 (omega arith) ∙ ap (λ k. get_or members i 0 ∷ drop k members) (let e : i + 1 ≡ left = omega arith in e)

  pub push_within : (nodes : List Node) → All (λ m. m < length nodes) members → All (IsTaskWithin nodes) now → All (IsTaskWithin nodes) new
  push_within nodes below are = rw push (All-push (IsTaskWithin nodes) now (Enter (get_or members i 0)) are (below i 0 (omega arith)))

  pub push_outcome : (nodes : List Node) → ((s : State) → outcome nodes now s ≡ outcome nodes olds (all_entered nodes (drop left members) s)) →
      (s : State) → outcome nodes new s ≡ outcome nodes olds (all_entered nodes (drop i members) s)
  push_outcome nodes same s =
      ap (λ ts. outcome nodes ts s) push ∙ (outcome_push nodes now (Enter (get_or members i 0)) s ∙ (same (entered nodes (get_or members i 0) s) ∙
      ap (λ ms. outcome nodes olds (all_entered nodes ms s)) (sym rest)))

  pub push_weight : (nodes : List Node) → weight_of nodes now ≡ weight_of nodes olds + members_weight nodes (drop left members) → weight_of nodes new ≡ weight_of nodes olds + members_weight nodes (drop i members)
  push_weight nodes e =
      let a = ap (weight_of nodes) push in let b = weight_push nodes now (Enter (get_or members i 0)) in let c = ap (members_weight nodes) rest in omega arith

-- ---- a list said again
times_push : (k : ℕ) (xs : List ℕ) → times (k + 1) xs ≡ times k xs ++ xs
times_push k xs = ap (λ n. times n xs) (let e : k + 1 ≡ suc k = omega arith in e) ∙ swapped k
  where
    swapped : (k : ℕ) → xs ++ times k xs ≡ times k xs ++ xs
    swapped zero = append-nil xs
    swapped (suc k) = ap (λ ys. xs ++ ys) (swapped k) ∙ sym (append_assoc xs (times k xs) xs)

drop_within : (from : ℕ) (xs : List ℕ) → drop (min from (length xs)) xs ≡ drop from xs
drop_within from xs = elim (cases_lt from (length xs)) [
  | inl l ↦ ap (λ m. drop m xs) (let e : min from (length xs) ≡ from = omega arith in e)
  | inr l ↦ drop_past (min from (length xs)) xs (omega arith) ∙ sym (drop_past from xs l)
]
  where
    drop_past : (n : ℕ) (xs : List ℕ) → length xs ≤ n → drop n xs ≡ []
    drop_past zero [] l = refl
    drop_past (suc n) [] l = refl
    drop_past zero (x ∷ xs) l = absurd (omega arith)
    drop_past (suc n) (x ∷ xs) l = drop_past n xs (omega arith)

drop_whole : (cut : ℕ) (xs : List ℕ) → take (length xs - cut) (drop cut xs) ≡ drop cut xs
drop_whole cut xs = take_all (length xs - cut) (drop cut xs) (let e = length-drop cut xs in omega arith)

pub said_more : (ns now new held part added : List ℕ) (from cut k size : ℕ) → size ≡ length ns → cut ≡ min from size → held ≡ ns → part ≡ take (length held - cut) (drop cut held) → added ≡ part → now ≡ ns ++ times k (drop from ns) → new ≡ now ++ added →
    new ≡ ns ++ times (k + 1) (drop from ns)
said_more ns now new held part added from cut k size z c h p a n e =
    let x : added ≡ drop from ns = a ∙ (p ∙ (drop_whole cut held ∙ (ap (drop cut) h ∙ (ap (λ m. drop m ns) (c ∙ ap (min from) z) ∙ drop_within from ns)))) in
    e ∙ (ap (λ ys. ys ++ added) n ∙ (ap (λ ys. (ns ++ times k (drop from ns)) ++ ys) x ∙ (append_assoc ns (times k (drop from ns)) (drop from ns) ∙ ap (λ ys. ns ++ ys) (sym (times_push k (drop from ns))))))

-- ---- a task taken from the end
module _ (nodes : List Node) (olds news : List Task) (task : Task) (is : olds ≡ news ++ task ∷ []) where
  pub popped_outcome : (s r : State) → outcome nodes olds s ≡ r → outcome nodes news (done nodes task s) ≡ r
  popped_outcome s r e = sym (ap (λ ts. outcome nodes ts s) is ∙ outcome_push nodes news task s) ∙ e

  pub popped_weight : weight_of nodes olds ≡ weight_of nodes news + task_weight nodes task
  popped_weight = ap (weight_of nodes) is ∙ weight_push nodes news task

  pub popped_within : (P : Task → Type 0) → All P olds → All P news
  popped_within P h k d l =
      subst P (ap (λ ts. get_or ts k d) is ∙ get_or_append_left news (task ∷ []) d k l) (h k d (let n = ap length is in let m = length-append news (task ∷ []) in omega arith))

-- in the end
pub root_fits : (nodes : List Node) (root : ℕ) (s : State) → s ≡ entered nodes root no_terms → length (terms_of (model_in nodes root)) < 2 ^ 32 → length s.terms < 2 ^ 32
root_fits nodes root s e l = let n = ap (λ t. length (State.terms t)) e in omega arith

pub copy_less : (nodes : List Node) (olds news : List Task) (from more : ℕ) → olds ≡ news ++ Copy from more ∷ [] → weight_of nodes news < weight_of nodes olds
copy_less nodes olds news from more is = let e = popped_weight nodes olds news (Copy from more) is in omega arith
