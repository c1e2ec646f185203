-- One call of a listing, and what will be read whatever comes.
use Rattle.std.proofs.Common.{◌≡◌, ℕ, ◌+◌, ◌-◌, ◌<◌, ◌≤◌, List, [], ◌∷◌, ◌++◌, Option, Some, None, Result, Ok, Err, Bool, true, false, ◌||◌, length, take, drop, refl, sym, ap, ◌∙◌, arith, position, nat_lt, length-drop, length-take, append-nil, append_assoc, if◌then◌else◌, IfOk, IfErr}
use Rattle.std.specs.Option.{option_or}
use Rattle.std.specs.List.{position_or_len, before_first, after_first}
use Rattle.std.proofs.lemmas.Bool.Decides.{nat_tests}
use Rattle.item_listing.specs.Lines.{Cut, cut, without_return}
use Rattle.item_listing.specs.declared.limits.TheConstants.{MOST_BYTES}
use Rattle.item_listing.specs.Limits.{past_limit, feed_past, byte_after_end}
use Rattle.item_listing.specs.State.{Reading}
use Rattle.item_listing.specs.Items.{item}
use Rattle.item_listing.specs.Listing.{and_line, unless, whole_line, after_end, begun_line, at_next, read_whole, read_begun, next_of, next, after, fed, bytes_taken, IsDrained, IsFault, GivesBegun}
use Rattle.item_listing.specs.Listed.{Listed, gives, refused, goes_on, done, begun_then, whole_then, lines_listed, to_come, listed, Waits, ReadsOn}
use Rattle.item_listing.specs.declared.item.Item.{Item}
use Rattle.item_listing.specs.declared.item.Item.TheVariants.{Dot}
use Rattle.item_listing.specs.declared.item.Reason.{Reason}
use Rattle.item_listing.specs.declared.item.Reason.TheVariants.{EndMissing}
use Rattle.item_listing.specs.declared.past.Past.{Past}
use Rattle.item_listing.specs.declared.past.ListingFault.{ListingFault}
use Rattle.item_listing.proofs.Cutting.{is_feed, line_then, continued, in_front, cut-at, cut-none, cut-append, cut-plain, cut-position_some, cut-position_none}
use Rattle.item_listing.proofs.Limiting.{past_limit-more, past_limit-none}
use Rattle.item_listing.proofs.Searching.{rest_is}
use Rattle.item_listing.specs.declared.listing.ListError.{ListError}
use Rattle.item_listing.specs.declared.listing.ListError.TheVariants as errors

-- by where the first line feed is
pub next-line : (r : Reading) (p : ℕ) → Some p ≡ position is_feed r.held → next r ≡ read_whole r.past (whole_line r.past (take p r.held))
next-line r p e = ap (λ (c : Cut). next_of r.past r.finished c.whole c.begun) (cut-position_some r.held p e).1

pub next-begun : (r : Reading) → None ≡ position is_feed r.held → next r ≡ read_begun r.past (begun_line r.past r.held r.finished)
next-begun r e = ap (λ (c : Cut). next_of r.past r.finished c.whole c.begun) (cut-position_none r.held e)

next-at : (r : Reading) → position_or_len is_feed r.held < length r.held → next r ≡ read_whole r.past (whole_line r.past (before_first is_feed r.held))
next-at r h = ap (λ (c : Cut). next_of r.past r.finished c.whole c.begun) (cut-at r.held h)

next-none : (r : Reading) → length r.held ≤ position_or_len is_feed r.held → next r ≡ read_begun r.past (begun_line r.past r.held r.finished)
next-none r h = ap (λ (c : Cut). next_of r.past r.finished c.whole c.begun) (cut-none r.held h)

feed_there : (held : List ℕ) → nat_lt (position_or_len is_feed held) (length held) ≡ true → position_or_len is_feed held < length held
feed_there held e = grind (arith, nat_tests)

feed_absent : (held : List ℕ) → nat_lt (position_or_len is_feed held) (length held) ≡ false → length held ≤ position_or_len is_feed held
feed_absent held e = grind (arith, nat_tests)

-- what was read
whole-item : (p : Past) (res : Result Item Reason) (it : Item) (more : Item → Listed) → read_whole p res ≡ Ok (Some it) → whole_then p res more ≡ gives it (more it)
whole-item p (Ok x) it more e = let same : x ≡ it = cc in ap (λ y. gives y (more y)) same
whole-item p (Err reason) it more e = cc

whole-fault : (p : Past) (res : Result Item Reason) (fault : ListingFault) (more : Item → Listed) → read_whole p res ≡ Err fault → whole_then p res more ≡ refused fault
whole-fault p (Ok x) fault more e = cc
whole-fault p (Err reason) fault more e = let same : at_next p reason ≡ fault = cc in ap refused same

whole-some : (p : Past) (res : Result Item Reason) → read_whole p res ≡ Ok None → ⊥
whole-some p (Ok x) e = cc
whole-some p (Err reason) e = cc

begun-no_item : (p : Past) (o : Option Reason) (it : Item) → read_begun p o ≡ Ok (Some it) → ⊥
begun-no_item p None it e = cc
begun-no_item p (Some reason) it e = cc

begun-none : (p : Past) (o : Option Reason) → read_begun p o ≡ Ok None → o ≡ None
begun-none p None e = refl
begun-none p (Some reason) e = cc

-- the first line, whatever comes
split_by : (r : Reading) → position_or_len is_feed r.held < length r.held → (it : Item) (more : List ℕ) (f : Bool) → r.finished ≡ f
    → cut (to_come r more) ≡ line_then (before_first is_feed r.held) (cut (to_come (after r (Some it)) more))
split_by r h it more true e = rw e (cut-at r.held h)
split_by r h it more false e =
    rw e (cut-append r.held more ∙ ap (λ c. continued c more) (cut-at r.held h)
    ∙ ap (line_then (before_first is_feed r.held)) (sym (cut-append (after_first is_feed r.held) more)))

item_by : (r : Reading) (it : Item) → next r ≡ Ok (Some it) → (more : List ℕ) (closed : Bool) → (t : Bool) → nat_lt (position_or_len is_feed r.held) (length r.held) ≡ t
    → listed r more closed ≡ gives it (listed (after r (Some it)) more closed)
item_by r it e more closed true there =
    let h = feed_there r.held there in
    ap (λ (c : Cut). lines_listed r.past (r.finished || closed) c.whole c.begun) (split_by r h it more r.finished refl)
    ∙ whole-item r.past (whole_line r.past (before_first is_feed r.held)) it _ (sym (next-at r h) ∙ e)
item_by r it e more closed false there = absurd (begun-no_item r.past (begun_line r.past r.held r.finished) it (sym (next-none r (feed_absent r.held there)) ∙ e))

-- an item is the first of what will be read
pub reads-item : (r : Reading) (it : Item) → next r ≡ Ok (Some it) → (more : List ℕ) (closed : Bool) → listed r more closed ≡ gives it (listed (after r (Some it)) more closed)
reads-item r it e more closed = item_by r it e more closed (nat_lt (position_or_len is_feed r.held) (length r.held)) refl

-- a begun line that is refused stays so
or_some : (o : Option Reason) (reason : Reason) → option_or o None ≡ Some reason → o ≡ Some reason
or_some None reason e = cc
or_some (Some x) reason e = e

after_end-more : (p : Past) (xs ys : List ℕ) (reason : Reason) → after_end p xs ≡ Some reason → after_end p (xs ++ ys) ≡ Some reason
after_end-more p [] ys reason e = cc
after_end-more p (x ∷ xs) ys reason e = e

after_end-reason : (p : Past) (xs : List ℕ) (reason : Reason) → after_end p xs ≡ Some reason → byte_after_end p.bytes ≡ reason
after_end-reason p [] reason e = cc
after_end-reason p (x ∷ xs) reason e = cc

begun_more : (p : Past) (xs ys : List ℕ) (closed : Bool) (reason : Reason) (t : Bool) → p.ended ≡ t → begun_line p xs false ≡ Some reason → begun_line p (xs ++ ys) closed ≡ Some reason
begun_more p xs ys closed reason true e h = rw e (after_end-more p xs ys reason (rw e at h))
begun_more p xs ys closed reason false e h =
    rw e (ap (λ o. option_or o (if closed then Some EndMissing else None)) (past_limit-more p.bytes 0 xs ys reason (or_some (past_limit p.bytes 0 xs) reason (rw e at h))))

whole_more : (p : Past) (xs ys : List ℕ) (reason : Reason) (t : Bool) → p.ended ≡ t → begun_line p xs false ≡ Some reason → whole_line p (xs ++ ys) ≡ Err reason
whole_more p xs ys reason true e h = rw e (ap Err (after_end-reason p xs reason (rw e at h)))
whole_more p xs ys reason false e h =
    rw e (ap (λ o. unless (option_or o (feed_past (p.bytes + length (xs ++ ys)))) (item p.tag_open (without_return (xs ++ ys))))
    (past_limit-more p.bytes 0 xs ys reason (or_some (past_limit p.bytes 0 xs) reason (rw e at h))))

then_more : (p : Past) (xs : List ℕ) (whole : List (List ℕ)) (begun : List ℕ) (closed : Bool) (reason : Reason) → begun_line p xs false ≡ Some reason
    → lines_listed p closed (in_front xs (record { whole = whole; begun = begun })).whole (in_front xs (record { whole = whole; begun = begun })).begun ≡ refused (at_next p reason)
then_more p xs [] begun closed reason h = ap (begun_then p closed) (begun_more p xs begun closed reason p.ended refl h)
then_more p xs (line ∷ lines) begun closed reason h = ap (λ res. whole_then p res (λ it. lines_listed (and_line p (xs ++ line) it) closed lines begun)) (whole_more p xs line reason p.ended refl h)

begun-fault : (p : Past) (o : Option Reason) (fault : ListingFault) → read_begun p o ≡ Err fault → (reason : Reason) × (o ≡ Some reason) × (at_next p reason ≡ fault)
begun-fault p None fault e = cc
begun-fault p (Some reason) fault e = (reason, refl, cc)

begun_by : (r : Reading) (reason : Reason) → length r.held ≤ position_or_len is_feed r.held → begun_line r.past r.held r.finished ≡ Some reason
    → (more : List ℕ) (closed : Bool) (f : Bool) → r.finished ≡ f → listed r more closed ≡ refused (at_next r.past reason)
begun_by r reason h e more closed true f =
    rw f (ap (λ (c : Cut). lines_listed r.past true c.whole c.begun) (cut-none r.held h) ∙ ap (begun_then r.past true) (rw f at e))
begun_by r reason h e more closed false f =
    rw f (ap (λ (c : Cut). lines_listed r.past closed c.whole c.begun) (cut-plain r.held more h) ∙ then_more r.past r.held (cut more).whole (cut more).begun closed reason (rw f at e))

fault_by : (r : Reading) (fault : ListingFault) → next r ≡ Err fault → (more : List ℕ) (closed : Bool) → (t : Bool) → nat_lt (position_or_len is_feed r.held) (length r.held) ≡ t
    → listed r more closed ≡ refused fault
fault_by r fault e more closed true there =
    let h = feed_there r.held there in
    ap (λ (c : Cut). lines_listed r.past (r.finished || closed) c.whole c.begun) (split_by r h Dot more r.finished refl)
    ∙ whole-fault r.past (whole_line r.past (before_first is_feed r.held)) fault _ (sym (next-at r h) ∙ e)
fault_by r fault e more closed false there =
    let h = feed_absent r.held there in
    let why = begun-fault r.past (begun_line r.past r.held r.finished) fault (sym (next-none r h) ∙ e) in
    begun_by r why.0 h why.1 more closed r.finished refl ∙ ap refused why.2

-- a fault is all that will be read
pub reads-fault : (r : Reading) (fault : ListingFault) → next r ≡ Err fault → (more : List ℕ) (closed : Bool) → listed r more closed ≡ refused fault
reads-fault r fault e more closed = fault_by r fault e more closed (nat_lt (position_or_len is_feed r.held) (length r.held)) refl

-- where nothing is read
record IsBegun (r : Reading) : Type 0 where
  absent : length r.held ≤ position_or_len is_feed r.held
  allowed : begun_line r.past r.held r.finished ≡ None

begun_is : (r : Reading) → next r ≡ Ok None → (t : Bool) → nat_lt (position_or_len is_feed r.held) (length r.held) ≡ t → IsBegun r
begun_is r e true there = absurd (whole-some r.past (whole_line r.past (before_first is_feed r.held)) (sym (next-at r (feed_there r.held there)) ∙ e))
begun_is r e false there =
    let h = feed_absent r.held there in
    record { absent = h; allowed = begun-none r.past (begun_line r.past r.held r.finished) (sym (next-none r h) ∙ e) }

is_begun : (r : Reading) → next r ≡ Ok None → IsBegun r
is_begun r e = begun_is r e (nat_lt (position_or_len is_feed r.held) (length r.held)) refl

pub reads-none : (r : Reading) → next r ≡ Ok None → Waits r
reads-none r e =
    let b = is_begun r e in (
      λ f. rw f (ap (λ xs. lines_listed r.past false (cut xs).whole (cut xs).begun) (append-nil r.held)
          ∙ ap (λ (c : Cut). lines_listed r.past false c.whole c.begun) (cut-none r.held b.absent) ∙ ap (begun_then r.past false) (rw f at b.allowed)),
      λ f more closed. rw f (ap (λ (c : Cut). lines_listed r.past true c.whole c.begun) (cut-none r.held b.absent) ∙ ap (begun_then r.past true) (rw f at b.allowed)),
    )

-- how many bytes were taken
after_end-none : (p : Past) (xs : List ℕ) → after_end p xs ≡ None → length xs ≡ 0
after_end-none p [] e = refl
after_end-none p (x ∷ xs) e = cc

or_left : (a b : Option Reason) → option_or a b ≡ None → a ≡ None
or_left None b e = refl
or_left (Some x) b e = cc

few_by : (p : Past) (held : List ℕ) (closed : Bool) (t : Bool) → p.ended ≡ t → p.bytes ≤ MOST_BYTES → begun_line p held closed ≡ None → p.bytes + length held ≤ MOST_BYTES
few_by p held closed true e few h = let none = after_end-none p held (rw e at h) in omega (arith, none)
few_by p held closed false e few h = past_limit-none p.bytes 0 held few (or_left (past_limit p.bytes 0 held) _ (rw e at h))

pub drained : (r : Reading) → next r ≡ Ok None → r.past.bytes ≤ MOST_BYTES → ((cut r.held).whole ≡ []) × (bytes_taken r ≤ MOST_BYTES)
drained r e few =
    let b = is_begun r e in
    (ap (λ (c : Cut). c.whole) (cut-none r.held b.absent), few_by r.past r.held r.finished r.past.ended refl few b.allowed)

taken_at : (n : ℕ) (held : List ℕ) (p : ℕ) → p < length held → n + (length (take p held) + 1) + length (drop (p + 1) held) ≡ n + length held
taken_at n held p h = omega (arith, length-take p held, length-drop (p + 1) held)

taken_by : (r : Reading) (it : Item) → next r ≡ Ok (Some it) → (t : Bool) → nat_lt (position_or_len is_feed r.held) (length r.held) ≡ t → bytes_taken (after r (Some it)) ≡ bytes_taken r
taken_by r it e true there = taken_at r.past.bytes r.held (position_or_len is_feed r.held) (feed_there r.held there)
taken_by r it e false there = absurd (begun-no_item r.past (begun_line r.past r.held r.finished) it (sym (next-none r (feed_absent r.held there)) ∙ e))

pub taken : (r : Reading) (o : Option Item) → next r ≡ Ok o → bytes_taken (after r o) ≡ bytes_taken r
taken r None e = refl
taken r (Some it) e = taken_by r it e (nat_lt (position_or_len is_feed r.held) (length r.held)) refl

-- one call that gave an item or nothing
pub reads_on : (old new : Reading) (o : Option Item) → next old ≡ Ok o → new ≡ after old o → ReadsOn old (Ok o) new
reads_on old new None e left = reads-none old e
reads_on old new (Some it) e left = λ more closed. reads-item old it e more closed ∙ ap (λ r. gives it (listed r more closed)) (sym left)

pub drained_if : (r : Reading) (o : Option Item) → next r ≡ Ok o → r.past.bytes ≤ MOST_BYTES → IsDrained r (Ok o)
drained_if r None e few = drained r e few
drained_if r (Some it) e few = tt

-- the bytes that are kept, from where the next line begins
abbrev pub from_line : List ℕ → ℕ → List ℕ
from_line kept k = take (length kept - k) (drop k kept)

abbrev pub reading : Past → List ℕ → ℕ → Bool → Reading
reading p kept k closed = record { past = p; held = drop k kept; finished = closed }

pub whole_gives : (kept : List ℕ) (k n : ℕ) (p : Past) (closed : Bool) (res : Result Item Reason) → k ≤ length kept → Some n ≡ position is_feed (from_line kept k)
    → whole_line p (take n (from_line kept k)) ≡ res → next (reading p kept k closed) ≡ read_whole p res
whole_gives kept k n p closed res h found e =
    next-line (reading p kept k closed) n (rw (rest_is k kept h) at found) ∙ ap (read_whole p) (rw (rest_is k kept h) at e)

begun_gives : (kept : List ℕ) (k : ℕ) (p : Past) (closed : Bool) → k ≤ length kept → None ≡ position is_feed (from_line kept k)
    → next (reading p kept k closed) ≡ read_begun p (begun_line p (from_line kept k) closed)
begun_gives kept k p closed h none =
    next-begun (reading p kept k closed) (rw (rest_is k kept h) at none) ∙ ap (λ l. read_begun p (begun_line p l closed)) (sym (rest_is k kept h))

pub begun_item : (kept : List ℕ) (k : ℕ) (p : Past) (closed : Bool) (result : Result (Option Item) ListError) → k ≤ length kept → None ≡ position is_feed (from_line kept k)
    → GivesBegun result p (begun_line p (from_line kept k) closed) → IfOk result (λ it. next (reading p kept k closed) ≡ Ok it)
begun_item kept k p closed (Ok it) h none g = begun_gives kept k p closed h none ∙ g
begun_item kept k p closed (Err e) h none g = tt

pub begun_fault : (kept : List ℕ) (k : ℕ) (p : Past) (closed : Bool) (result : Result (Option Item) ListError) → k ≤ length kept → None ≡ position is_feed (from_line kept k)
    → GivesBegun result p (begun_line p (from_line kept k) closed) → IfErr result (IsFault (reading p kept k closed))
begun_fault kept k p closed (Ok it) h none g = tt
begun_fault kept k p closed (Err errors.Memory) h none g = tt
begun_fault kept k p closed (Err (errors.Fault fault)) h none g = begun_gives kept k p closed h none ∙ g

pub from_line-length : (kept : List ℕ) (k : ℕ) → k ≤ length kept → k + length (from_line kept k) ≡ length kept
from_line-length kept k h = omega (arith, ap length (rest_is k kept h), length-drop k kept)

-- a piece and then later bytes
fed_by : (r : Reading) (piece more : List ℕ) (closed : Bool) (f : Bool) → r.finished ≡ f → listed (fed r piece) more closed ≡ listed r (piece ++ more) closed
fed_by r piece more closed true f = rw f refl
fed_by r piece more closed false f = rw f (ap (λ xs. lines_listed r.past closed (cut xs).whole (cut xs).begun) (append_assoc r.held piece more))

pub listed-fed : (r : Reading) (piece more : List ℕ) (closed : Bool) → listed (fed r piece) more closed ≡ listed r (piece ++ more) closed
listed-fed r piece more closed = fed_by r piece more closed r.finished refl

finished_by : (r : Reading) (more : List ℕ) (closed : Bool) (f : Bool) → r.finished ≡ f → listed (record r { finished = true }) more closed ≡ listed r [] true
finished_by r more closed true f = rw f refl
finished_by r more closed false f = rw f (ap (λ xs. lines_listed r.past true (cut xs).whole (cut xs).begun) (sym (append-nil r.held)))

pub listed-finished : (r : Reading) (more : List ℕ) (closed : Bool) → listed (record r { finished = true }) more closed ≡ listed r [] true
listed-finished r more closed = finished_by r more closed r.finished refl

-- where only a fault will be read, it is read next
fault_then : (r : Reading) (fault : ListingFault) → ((more : List ℕ) (closed : Bool) → listed r more closed ≡ refused fault)
    → (res : Result (Option Item) ListingFault) → next r ≡ res → next r ≡ Err fault
fault_then r fault all (Err x) e = let same : refused x ≡ refused fault = sym (reads-fault r x e [] false) ∙ all [] false in let one : x ≡ fault = cc in e ∙ ap Err one
fault_then r fault all (Ok (Some it)) e = let no : gives it (listed (after r (Some it)) [] false) ≡ refused fault = sym (reads-item r it e [] false) ∙ all [] false in cc
fault_then r fault all (Ok None) e = waits_not (reads-none r e) r.finished refl
  where
    waits_not : Waits r → (f : Bool) → r.finished ≡ f → next r ≡ Err fault
    waits_not w true f = let no : done ≡ refused fault = sym (w.1 f [] false) ∙ all [] false in cc
    waits_not w false f = let no : goes_on ≡ refused fault = sym (w.0 f) ∙ all [] false in cc

pub fault-fed : (r : Reading) (fault : ListingFault) (piece : List ℕ) → next r ≡ Err fault → next (fed r piece) ≡ Err fault
fault-fed r fault piece e =
    fault_then (fed r piece) fault (λ more closed. listed-fed r piece more closed ∙ reads-fault r fault e (piece ++ more) closed) (next (fed r piece)) refl

pub fault-finished : (r : Reading) (fault : ListingFault) → next r ≡ Err fault → next (record r { finished = true }) ≡ Err fault
fault-finished r fault e =
    fault_then (record r { finished = true }) fault (λ more closed. listed-finished r more closed ∙ reads-fault r fault e [] true) (next (record r { finished = true })) refl
