-- One uplink shared among viewers, call by call (docs/REQUIREMENTS.md, section 23, N10). A viewer's credit is how many bytes may be sent to it; a credit below 0
-- is a debt. Lent to each call are two columns with an entry for each viewer: its credit, and a mark that is 0 unless the viewer waits for a ResyncPoint.
use Rattle.std.specs.Prelude.{Bool, true, cond, not, ◌&&◌, List, [], ◌∷◌, ◌++◌, map, ℕ, ◌/◌, eqb, ltb, leb, ℤ, pos, neg_ℤ, ◌+ℤ◌, ◌-ℤ◌, length, get_or, set, take, drop, Result, Ok, Err}
use Rattle.std.specs.Int.Signed.{le_z}
use Rattle.types.specs.declared.ErrorCode.{ErrorCode}
use Rattle.types.specs.declared.ErrorCode.TheVariants as error
use Rattle.uplink.specs.declared.Decision.{Decision}
use Rattle.uplink.specs.declared.Decision.TheVariants.{Sent, Dropped}

-- THE LIMITS: viewers, bytes a tick, a credit, which is twice the largest share, and a debt
abbrev pub most_viewers : ℕ
most_viewers = 64

abbrev pub most_uplink : ℕ
most_uplink = 16777215

abbrev pub most_credit : ℕ
most_credit = 33554430

abbrev pub most_debt : ℕ
most_debt = 2000000000

-- 1 to 64 viewers, each of which has an entry in a column of so many
unfoldable pub viewers_ok : ℕ → ℕ → Bool
viewers_ok n entries = ltb 0 n && (leb n most_viewers && leb n entries)

-- a credit of at most 33,554,430, a debt of at most 2,000,000,000
unfoldable pub credit_ok : ℤ → Bool
credit_ok c = le_z (neg_ℤ (pos most_debt)) c && le_z c (pos most_credit)

-- THE SHARE of each viewer: U divided by the number of viewers, rounded down
abbrev pub share_of : ℕ → ℕ → ℕ
share_of uplink n = uplink / n

-- what a tick leaves of a credit: at most as much again as the share; a debt is left whole
unfoldable pub carried : ℕ → ℤ → ℤ
carried share c = cond (le_z c (pos share)) c (pos share)

-- THE CREDIT AFTER A TICK: the share on top of that
unfoldable pub credited : ℕ → ℤ → ℤ
credited share c = carried share c +ℤ pos share

abbrev pub all_ok : List ℤ → Bool
all_ok [] = true
all_ok (c ∷ cs) = credit_ok c && all_ok cs

-- A TICK is refused with -32 for a number of viewers out of range, U over 16,777,215, or a viewer's credit out of range
unfoldable pub tick_ok : ℕ → ℕ → List ℤ → Bool
tick_ok n uplink credits = viewers_ok n (length credits) && (leb uplink most_uplink && all_ok (take n credits))

unfoldable pub tick_error : ℕ → ℕ → List ℤ → ErrorCode
tick_error n uplink credits = cond (tick_ok n uplink credits) error.Ok error.OutOfRange

-- else it credits each viewer. Entries behind the viewers' are kept, and after a refusal all are
unfoldable pub tick_credits : ℕ → ℕ → List ℤ → List ℤ
tick_credits n uplink credits =
    cond (tick_ok n uplink credits) (map (credited (share_of uplink n)) (take n credits) ++ drop n credits) credits

-- WHAT COMES OF A FRAME that is offered to a viewer: it is sent or dropped, or the offer is refused
abbrev pub Offered : Type 0
Offered = Result Decision ErrorCode

-- hints, by their numbers: 0 Critical, 1 ResyncPoint, 2 Droppable
abbrev pub is_critical_hint : ℕ → Bool
is_critical_hint hint = eqb hint 0

abbrev pub is_resync_hint : ℕ → Bool
is_resync_hint hint = eqb hint 1

abbrev pub is_droppable_hint : ℕ → Bool
is_droppable_hint hint = eqb hint 2

-- THE DECISION on a frame of so many bytes, offered to a viewer with this credit who waits for a ResyncPoint or not. A Critical frame goes unless it would push
-- the debt over 2,000,000,000: that is -33. Any other goes if it is no longer than the credit, a Droppable one only if the viewer does not wait
unfoldable pub decide : ℕ → ℕ → ℤ → Bool → Offered
decide hint size c waits =
    cond (is_critical_hint hint) (cond (le_z (pos size) (c +ℤ pos most_debt)) (Ok Sent) (Err error.DebtLimit))
    (cond (le_z (pos size) c && not (is_droppable_hint hint && waits)) (Ok Sent) (Ok Dropped))

-- the viewer's credit then: what is sent is paid
abbrev pub credit_after : Offered → ℕ → ℤ → ℤ
credit_after (Ok Sent) size c = c -ℤ pos size
credit_after (Ok Dropped) size c = c
credit_after (Err e) size c = c

-- and its mark: after a drop it waits, until a ResyncPoint has gone
abbrev pub mark_after : Offered → ℕ → ℕ → ℕ
mark_after (Ok Sent) hint mark = cond (is_resync_hint hint) 0 mark
mark_after (Ok Dropped) hint mark = 1
mark_after (Err e) hint mark = mark

-- the entries of viewer v
abbrev pub credit_of : List ℤ → ℕ → ℤ
credit_of credits v = get_or credits v (pos 0)

abbrev pub mark_of : List ℕ → ℕ → ℕ
mark_of waiting v = get_or waiting v 0

abbrev pub waits : ℕ → Bool
waits mark = not (eqb mark 0)

-- AN OFFER is refused with -32 for a number of viewers, a viewer or a hint out of range, or that viewer's credit
unfoldable pub offer_ok : ℕ → ℕ → ℕ → List ℤ → List ℕ → Bool
offer_ok n v hint credits waiting =
    viewers_ok n (length credits) && (leb n (length waiting) && (ltb v n && (leb hint 2 && credit_ok (credit_of credits v))))

unfoldable pub offer_answer : ℕ → ℕ → ℕ → ℕ → List ℤ → List ℕ → Offered
offer_answer n v hint size credits waiting =
    cond (offer_ok n v hint credits waiting) (decide hint size (credit_of credits v) (waits (mark_of waiting v))) (Err error.OutOfRange)

-- THE COLUMNS THEN: no entry changes but that viewer's
unfoldable pub offer_credits : ℕ → ℕ → ℕ → ℕ → List ℤ → List ℕ → List ℤ
offer_credits n v hint size credits waiting = set credits v (credit_after (offer_answer n v hint size credits waiting) size (credit_of credits v))

unfoldable pub offer_waiting : ℕ → ℕ → ℕ → ℕ → List ℤ → List ℕ → List ℕ
offer_waiting n v hint size credits waiting = set waiting v (mark_after (offer_answer n v hint size credits waiting) hint (mark_of waiting v))

-- IN NUMBERS: 1 sent, 2 dropped, 0 refused; and the error, if there is one
abbrev pub decision_number : Offered → ℕ
decision_number (Ok Sent) = 1
decision_number (Ok Dropped) = 2
decision_number (Err e) = 0

abbrev pub error_of : Offered → ErrorCode
error_of (Ok decision) = error.Ok
error_of (Err e) = e
