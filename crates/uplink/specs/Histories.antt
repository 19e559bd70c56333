-- Histories of one uplink: ticks and offers in their order, and what is counted from them.
use Rattle.std.specs.Prelude.{◌≡◌, cond, List, [], ◌∷◌, ℕ, ◌+◌, ◌-◌, ◌≤◌, ◌<◌, eqb, leb, ℤ, pos, negsuc, length, Ok, Err}
use Rattle.types.specs.declared.ErrorCode.TheVariants as error
use Rattle.uplink.specs.Uplink.{Offered, most_uplink, share_of, credited, tick_credits, decide, credit_after, mark_after, credit_of, mark_of, waits, offer_answer, offer_credits, offer_waiting}
use Rattle.uplink.specs.declared.Decision.TheVariants.{Sent, Dropped}

-- a tick, or a frame of this hint and so many bytes offered to a viewer; any numbers
pub data Event : Type 0 where
  tick : Event
  offer : (viewer hint size : ℕ) → Event

-- the two columns as they are lent to a call
pub record Sharer : Type 0 where
  pub credits : List ℤ
  pub waiting : List ℕ

-- FRESH: credit starts at 0, and nobody waits. The columns have an entry for each of n viewers, and may be longer
pub record Fresh (n : ℕ) (s : Sharer) : Type 0 where
  pub long_credits : n ≤ length s.credits
  pub long_waiting : n ≤ length s.waiting
  pub credit : (v : ℕ) → v < n → credit_of s.credits v ≡ pos 0
  pub mark : (v : ℕ) → v < n → mark_of s.waiting v ≡ 0

-- one call, with n viewers and U bytes a tick
unfoldable pub sharer_after : ℕ → ℕ → Event → Sharer → Sharer
sharer_after n u tick s = record { credits = tick_credits n u s.credits; waiting = s.waiting }
sharer_after n u (offer v hint size) s =
    record {
      credits = offer_credits n v hint size s.credits s.waiting;
      waiting = offer_waiting n v hint size s.credits s.waiting;
    }

-- the calls one after the other, the columns lent again as the last one left them
abbrev pub run_sharer : ℕ → ℕ → List Event → Sharer → Sharer
run_sharer n u [] s = s
run_sharer n u (e ∷ es) s = run_sharer n u es (sharer_after n u e s)

-- THE DECISIONS on viewer v's frames, refusals among them, in their order
abbrev pub decisions : ℕ → ℕ → ℕ → List Event → Sharer → List Offered
decisions v n u [] s = []
decisions v n u (tick ∷ es) s = decisions v n u es (sharer_after n u tick s)
decisions v n u (offer w hint size ∷ es) s =
    cond (eqb w v)
    (offer_answer n w hint size s.credits s.waiting ∷ decisions v n u es (sharer_after n u (offer w hint size) s))
    (decisions v n u es (sharer_after n u (offer w hint size) s))

-- viewer v's own frames and the ticks, in their order
abbrev pub own : ℕ → List Event → List Event
own v [] = []
own v (tick ∷ es) = tick ∷ own v es
own v (offer w hint size ∷ es) = cond (eqb w v) (offer w hint size ∷ own v es) (own v es)

-- COUNTED FROM THE HISTORY: the ticks
abbrev pub ticks : List Event → ℕ
ticks [] = 0
ticks (tick ∷ es) = 1 + ticks es
ticks (offer v hint size ∷ es) = ticks es

-- the bytes of viewer v's frames that were sent
abbrev pub bytes_sent : Offered → ℕ → ℕ
bytes_sent (Ok Sent) size = size
bytes_sent (Ok Dropped) size = 0
bytes_sent (Err e) size = 0

abbrev pub sent_to : ℕ → ℕ → ℕ → List Event → Sharer → ℕ
sent_to v n u [] s = 0
sent_to v n u (tick ∷ es) s = sent_to v n u es (sharer_after n u tick s)
sent_to v n u (offer w hint size ∷ es) s =
    cond (eqb w v) (bytes_sent (offer_answer n w hint size s.credits s.waiting) size) 0 + sent_to v n u es (sharer_after n u (offer w hint size) s)

-- and what was cut off viewer v's credit: at each tick what it had beyond one share
abbrev pub excess : ℕ → ℤ → ℕ
excess share (pos c) = c - share
excess share (negsuc c) = 0

abbrev pub cut_off : ℕ → ℕ → ℕ → List Event → Sharer → ℕ
cut_off v n u [] s = 0
cut_off v n u (tick ∷ es) s = excess (share_of u n) (credit_of s.credits v) + cut_off v n u es (sharer_after n u tick s)
cut_off v n u (offer w hint size ∷ es) s = cut_off v n u es (sharer_after n u (offer w hint size) s)

-- ONE VIEWER ALONE, of n that are in range, with no columns: what is decided on its frames, from its credit and its mark on
unfoldable pub decide_alone : ℕ → ℕ → ℤ → ℕ → Offered
decide_alone hint size c mark = cond (leb hint 2) (decide hint size c (waits mark)) (Err error.OutOfRange)

unfoldable pub credited_alone : ℕ → ℕ → ℤ → ℤ
credited_alone n u c = cond (leb u most_uplink) (credited (share_of u n) c) c

abbrev pub alone : ℕ → ℕ → List Event → ℤ → ℕ → List Offered
alone n u [] c mark = []
alone n u (tick ∷ es) c mark = alone n u es (credited_alone n u c) mark
alone n u (offer v hint size ∷ es) c mark =
    decide_alone hint size c mark ∷ alone n u es (credit_after (decide_alone hint size c mark) size c) (mark_after (decide_alone hint size c mark) hint mark)
