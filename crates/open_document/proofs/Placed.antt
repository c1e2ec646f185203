-- Which names may stand at a place is told.
use Rattle.std.proofs.Common.{◌≡◌, ℕ, ◌+◌, ◌≤◌, List, Option, Result, Ok, Err, length, map, take, drop, refl, sym, ap, subst, ◌∙◌, arith}
use Rattle.assessment.specs.Attribution.{SchemaSet}
use Rattle.edit_session.specs.Around.{IsAroundAt, asked_at}
use Rattle.edit_session.specs.declared.around.AroundError.{AroundError}
use Rattle.kept_next.specs.Answers.{Answer, AreAnswers, PlaceQuestion, answers_by, cost, reply}
use Rattle.kept_next.specs.Place.{ListPlace, IsPlaceBy, children_in}
use Rattle.kept_next.proofs.Answered.{are-answers, answers-by-many}
use Rattle.kept_next.proofs.Written.{cost-more}
use Rattle.told.specs.Going.{Answers, trace}
use Rattle.told.specs.Tells.{Wrote}
use Rattle.told.specs.Told.{Told, says}
use Rattle.told.specs.declared.break_off.BreakOff.{BreakOff}
use Rattle.told.proofs.Saying.{said_answers, tried_answers}
use Rattle.open_document.specs.Replies.{child_count, next_said, next_told}
use Rattle.open_document.specs.State.{OpenState}

module _ (s : OpenState) (node place : ℕ) (v : ListPlace) (h : IsAroundAt s.session node place v) where
  answers : List Answer
  answers = answers_by v h.question.set h.names

  answers-are : AreAnswers h.question answers
  unfolding answers
  answers-are =
      subst (λ (q : PlaceQuestion). AreAnswers q (answers_by v h.question.set h.names))
      (λ i. record { set = h.question.set; particle = h.question.particle; before = sym h.before_is i; behind = sym h.behind_is i })
      (are-answers v h.question.set h.question.particle h.names h.place_is)

  -- so many steps at most were counted
  within-cost : (n m : ℕ) → m ≤ n + cost (children_in v.lists v.list) (length v.symbols) → m ≤ n + cost (child_count s.session node) (length answers)
  unfolding answers
  within-cost n m few =
      let more = cost-more (children_in v.lists v.list) (child_count s.session node) (length v.symbols) h.few in
      let many : length answers ≡ length v.symbols = answers-by-many v h.question.set h.names in
      let same = ap (cost (child_count s.session node)) many in
      omega (arith, few, more, same)

  -- the names are those of the table of the session
  pub names-are : (set : SchemaSet) → set ≡ s.session.set → h.question.set.names ≡ set.names
  names-are set is = ap (λ (x : SchemaSet). x.names) (h.set_is ∙ sym is)

  pub next_answered : (r : Result (Unit {0}) BreakOff) (old new : Option (List ℕ)) (n m : ℕ) (next : OpenState → Told)
      → Wrote r old new (reply h.question.set.names (answers_by v h.question.set h.names)) → n ≤ m → m ≤ n + cost (children_in v.lists v.list) (length v.symbols)
      → Answers (next_told s (child_count s.session node) (asked_at s.session node place) next) r (trace old n) (trace new m) (λ done. next s)
  unfolding answers
  next_answered r old new n m next wrote later few =
      let children = child_count s.session node in
      subst (λ (a : Result PlaceQuestion AroundError). Answers (next_told s children a next) r (trace old n) (trace new m) (λ done. next s)) (sym h.asked_is)
      (tried_answers h.question (λ (x : List Answer). says (next_said children h.question x) (next s)) answers r (trace old n) (trace new m) (λ done. next s) answers-are
      (said_answers (next_said children h.question answers) (λ done. next s) (next s) r old new n m (λ x. refl) wrote later (within-cost n m few)))
