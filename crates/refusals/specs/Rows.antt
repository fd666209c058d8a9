-- The refusal table: each case's row number, and the place that it tells.
use Rattle.std.specs.Prelude.{ℕ, Bool, ◌&&◌, Some, None, Option, nat_le}
use Rattle.refusals.specs.declared.refusal.Refusal.{Refusal}
use Rattle.refusals.specs.declared.refusal.Refusal.TheVariants.{Size, Agenda, Scheme, Used, Processor, Item, Faulty, Sound, Spare, Moment, Wait, Sender, Opened, Value, Offset, End, Due, Flight, Frame, Row, Code, Long, First, Link, Own, Forged, Early, Late, Closed, Same, Full, Signer, Text, Room, Line}

-- a row's number, and the link or flight that its refusal tells, if any
abbrev pub row_and_place : Refusal → ℕ × Option ℕ
row_and_place Size = (1, None)
row_and_place Agenda = (2, None)
row_and_place Scheme = (3, None)
row_and_place Used = (4, None)
row_and_place Processor = (10, None)
row_and_place Item = (11, None)
row_and_place Faulty = (12, None)
row_and_place Sound = (13, None)
row_and_place Spare = (14, None)
row_and_place Moment = (15, None)
row_and_place Wait = (16, None)
row_and_place Sender = (17, None)
row_and_place Opened = (18, None)
row_and_place Value = (19, None)
row_and_place Offset = (20, None)
row_and_place End = (21, None)
row_and_place (Due flight) = (22, Some flight)
row_and_place Flight = (23, None)
row_and_place Frame = (30, None)
row_and_place Row = (31, None)
row_and_place Code = (32, None)
row_and_place Long = (33, None)
row_and_place First = (34, None)
row_and_place (Link place) = (35, Some place)
row_and_place (Own place) = (36, Some place)
row_and_place (Forged place) = (37, Some place)
row_and_place Early = (38, None)
row_and_place Late = (39, None)
row_and_place Closed = (40, None)
row_and_place Same = (41, None)
row_and_place Full = (42, None)
row_and_place Signer = (50, None)
row_and_place Text = (51, None)
row_and_place Room = (52, None)
row_and_place Line = (60, None)

abbrev pub row_of : Refusal → ℕ
row_of r = (row_and_place r).0

abbrev pub told_by : Refusal → Option ℕ
told_by r = (row_and_place r).1

-- rows 30 to 42 drop a received frame
abbrev pub is_drop : Refusal → Bool
is_drop r = nat_le 30 (row_of r) && nat_le (row_of r) 42
