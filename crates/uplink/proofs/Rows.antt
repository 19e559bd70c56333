-- Rows by computation: the examples of docs/REQUIREMENTS.md, section 23, N10. Two viewers share 9 bytes a tick, 4 each, if nothing else is said.
use mathlib.Core.Path.{◌≡◌, refl}
use mathlib.Core.List.{List, [], ◌∷◌}
use Prim.Native.Nat.{ℕ}
use lib.IntN.{pos, negsuc}
use lib.ListN.{replicate}
use Rattle.types.specs.declared.ErrorCode.TheVariants as error
use Rattle.uplink.specs.Uplink.{Offered, viewers_ok, credit_ok, carried, credited, tick_ok, tick_error, tick_credits, decide, offer_ok, offer_answer, offer_credits, offer_waiting}
use Rattle.uplink.specs.Histories.{Event, tick, offer, Sharer, sharer_after, run_sharer, decisions, sent_to, excess, cut_off}
use Rattle.std.specs.Prelude.{Ok, Err}
use Rattle.uplink.specs.declared.Decision.TheVariants.{Sent, Dropped}

-- fresh columns, with an entry behind the two viewers' that is out of range
abbrev fresh : Sharer
fresh = record { credits = pos 0 ∷ pos 0 ∷ pos 33554431 ∷ []; waiting = 0 ∷ 0 ∷ 7 ∷ [] }

-- frames for viewer 0
abbrev critical : ℕ → Event
critical = offer 0 0

abbrev resync : ℕ → Event
resync = offer 0 1

abbrev droppable : ℕ → Event
droppable = offer 0 2

abbrev decided : List Event → List Offered
decided es = decisions 0 2 9 es fresh

pub record Rows : Type 0 where
  -- at most one share is left of a credit, and the share comes on top; the largest credit there is
  limited : credited 4 (pos 9) ≡ pos 8
  cut : excess 4 (pos 9) ≡ 5
  largest : credited 16777215 (pos 33554430) ≡ pos 33554430
  -- a debt is left whole
  debt_carried : credited 4 (negsuc 9) ≡ negsuc 5
  -- the remainder is lost; fewer bytes than viewers are a share of 0, which leaves no credit
  rounded : tick_credits 2 9 (pos 0 ∷ pos 0 ∷ []) ≡ pos 4 ∷ pos 4 ∷ []
  no_share : tick_credits 2 1 (pos 5 ∷ negsuc 2 ∷ []) ≡ pos 0 ∷ negsuc 2 ∷ []
  -- a frame as long as the credit goes; an empty one goes at credit 0 and is dropped in debt
  as_long : decided (tick ∷ droppable 4 ∷ droppable 0 ∷ []) ≡ Ok Sent ∷ Ok Sent ∷ []
  too_long : decided (tick ∷ droppable 5 ∷ []) ≡ Ok Dropped ∷ []
  in_debt : decided (critical 1 ∷ droppable 0 ∷ []) ≡ Ok Sent ∷ Ok Dropped ∷ []
  -- Critical goes beyond the credit, and is paid
  into_debt : (run_sharer 2 9 (tick ∷ critical 5 ∷ []) fresh).credits ≡ negsuc 0 ∷ pos 4 ∷ pos 33554431 ∷ []
  -- up to a debt of 2,000,000,000: then an empty one goes, and one byte is refused
  debt_limit : decided (critical 2000000000 ∷ critical 0 ∷ critical 1 ∷ []) ≡ Ok Sent ∷ Ok Sent ∷ Err error.DebtLimit ∷ []
  -- after a drop, of a ResyncPoint too, nothing Droppable goes
  resync_dropped : decided (tick ∷ resync 5 ∷ droppable 1 ∷ []) ≡ Ok Dropped ∷ Ok Dropped ∷ []
  -- until a ResyncPoint has gone; Critical frames and ticks do not end it
  resync_gone : decided (tick ∷ droppable 5 ∷ resync 1 ∷ droppable 1 ∷ []) ≡ Ok Dropped ∷ Ok Sent ∷ Ok Sent ∷ []
  still_waits : decided (tick ∷ droppable 5 ∷ critical 0 ∷ tick ∷ droppable 0 ∷ []) ≡ Ok Dropped ∷ Ok Sent ∷ Ok Dropped ∷ []
  -- -33 is no drop
  no_drop : decided (tick ∷ critical 2000000005 ∷ droppable 4 ∷ []) ≡ Err error.DebtLimit ∷ Ok Sent ∷ []
  -- a viewer or a hint out of range; a number of viewers, or a column shorter than it; U over the limit
  viewer_out : offer_answer 2 2 0 1 fresh.credits fresh.waiting ≡ Err error.OutOfRange
  hint_out : offer_answer 2 0 3 1 fresh.credits fresh.waiting ≡ Err error.OutOfRange
  nobody : tick_error 0 9 fresh.credits ≡ error.OutOfRange
  too_many : tick_error 65 9 (replicate 65 (pos 0)) ≡ error.OutOfRange
  just_enough : tick_error 64 9 (replicate 65 (pos 0)) ≡ error.Ok
  short_credits : tick_error 3 9 (pos 0 ∷ pos 0 ∷ []) ≡ error.OutOfRange
  short_waiting : offer_answer 2 0 0 1 fresh.credits (0 ∷ []) ≡ Err error.OutOfRange
  uplink_out : tick_error 2 16777216 fresh.credits ≡ error.OutOfRange
  -- a neighbour's credit out of range stops a tick, which changes no credit, and no offer
  tick_stopped : tick_credits 2 9 (pos 0 ∷ pos 33554431 ∷ []) ≡ pos 0 ∷ pos 33554431 ∷ []
  offer_goes : offer_answer 2 0 0 1 (pos 0 ∷ pos 33554431 ∷ []) (0 ∷ 0 ∷ []) ≡ Ok Sent
  own_stops : offer_answer 2 1 0 1 (pos 0 ∷ pos 33554431 ∷ []) (0 ∷ 0 ∷ []) ≡ Err error.OutOfRange
  debt_out : offer_answer 2 0 0 0 (negsuc 2000000000 ∷ pos 0 ∷ []) (0 ∷ 0 ∷ []) ≡ Err error.OutOfRange
  -- the range is a fixed one: a credit of more than two shares is taken, and cut at the next tick
  beyond_share : tick_credits 2 9 (pos 5000 ∷ pos 0 ∷ []) ≡ pos 8 ∷ pos 4 ∷ []
  -- counted from a history: 3 shares of 4 are 7 bytes sent, 1 byte left and 4 cut off
  history : (sent_to 0 2 9 (tick ∷ tick ∷ tick ∷ critical 7 ∷ []) fresh ≡ 7) × (cut_off 0 2 9 (tick ∷ tick ∷ tick ∷ critical 7 ∷ []) fresh ≡ 4)
  history_left : (run_sharer 2 9 (tick ∷ tick ∷ tick ∷ critical 7 ∷ []) fresh).credits ≡ pos 1 ∷ pos 8 ∷ pos 33554431 ∷ []

pub rows : Rows
unfolding viewers_ok credit_ok carried credited tick_ok tick_error tick_credits decide offer_ok offer_answer offer_credits offer_waiting sharer_after
rows =
    record {
      limited = refl;
      cut = refl;
      largest = refl;
      debt_carried = refl;
      rounded = refl;
      no_share = refl;
      as_long = refl;
      too_long = refl;
      in_debt = refl;
      into_debt = refl;
      debt_limit = refl;
      resync_dropped = refl;
      resync_gone = refl;
      still_waits = refl;
      no_drop = refl;
      viewer_out = refl;
      hint_out = refl;
      nobody = refl;
      too_many = refl;
      just_enough = refl;
      short_credits = refl;
      short_waiting = refl;
      uplink_out = refl;
      tick_stopped = refl;
      offer_goes = refl;
      own_stops = refl;
      debt_out = refl;
      beyond_share = refl;
      history = (refl, refl);
      history_left = refl;
    }
