-- Tables of fields: one number, two columns, and a message by the names of its fields.
use Rattle.std.specs.Prelude.{◌≡◌, ℕ, ◌++◌, map, Some, nat_lt, ◌&&◌, IsTrue}
use Rattle.std.proofs.Common.{ap, ◌∙◌}
use Rattle.wire_format.specs.Writing.{IsWritable}
use Rattle.wire_format.specs.Reading.{◌>>=◌}
use Rattle.wire_format.specs.Message.{contents}
use Rattle.wire_format.specs.Columns.{Kind, Column, folded, kept, kept_refused, at, both, seen, is_number}
use Rattle.wire_format.specs.ColumnLaws.{and_left, and_right, kept-folded, kept_other, contents-at, within_at, sound_at, rising_at, le_self, below_ne, above_ne, above_zero, below_most, all_append, pair_reads, pair_back, pair_within, pair_below, pair_above, pair_ordered, apart_from, rising_append, message_reads, message_still, message_back}

-- what stands at one number
abbrev pub column : {A : Type 0} (n : ℕ) → IsTrue (is_number n) → Kind A → Column A
column n h k = record {
  low = n;
  high = n;
  start = k.start;
  step = kept n k.add;
  refused = kept_refused n k.refused;
  read = λ fs. k.read (contents n fs);
  write = λ a. map (at n) (k.write a);
  fits = k.fits;
  ordered = le_self n;
  reads = λ fs. kept-folded n k.add k.start fs ∙ k.reads (contents n fs);
  below = λ a f lt. kept_other n k.add a f (below_ne f.number n lt);
  above = λ a f lt. kept_other n k.add a f (above_ne f.number n lt);
  within = λ a. within_at n (k.write a);
  rising = λ a. rising_at n (k.write a);
  back = λ a h. kept-folded n k.add k.start (map (at n) (k.write a)) ∙ ap (folded k.add k.start) (contents-at n (k.write a)) ∙ k.back a h;
  sound = λ a f. sound_at n (above_zero n h) (below_most n h) (k.write a) (k.sound a f);
}

-- two columns, the second of higher numbers
abbrev pub pair : {A B : Type 0} (c : Column A) (d : Column B) → IsTrue (nat_lt c.high d.low) → Column (A × B)
pair c d h = record {
  low = c.low;
  high = d.high;
  start = (c.start, d.start);
  step = both c.step d.step;
  refused = λ p f. (c.refused p.0 f, d.refused p.1 f);
  read = λ fs. c.read fs >>= λ x. d.read fs >>= λ y. Some (x, y);
  write = λ p. c.write p.0 ++ d.write p.1;
  fits = λ p. c.fits p.0 && d.fits p.1;
  ordered = pair_ordered c d (apart_from c.high d.low h);
  reads = pair_reads c d;
  below = pair_below c d (apart_from c.high d.low h);
  above = pair_above c d (apart_from c.high d.low h);
  within = λ p. pair_within c d (apart_from c.high d.low h) p.0 p.1;
  rising = λ p. rising_append c.low c.high d.low (c.write p.0) (d.write p.1) (apart_from c.high d.low h) c.ordered (c.within p.0) (c.rising p.0) (d.rising p.1);
  back = λ p f. pair_back c d (apart_from c.high d.low h) p.0 p.1 f;
  sound = λ p f. all_append IsWritable (c.write p.0) (d.write p.1) (c.sound p.0 (and_left (c.fits p.0) (d.fits p.1) f)) (d.sound p.1 (and_right (c.fits p.0) (d.fits p.1) f));
}

-- a message: of makes it from the values of its columns, to takes it apart
abbrev pub message : {T M : Type 0} (c : Column T) (of : T → M) (to : M → T) → ((t : T) → to (of t) ≡ t) → ((m : M) → of (to m) ≡ m) → Column M
message c of to there again = record {
  low = c.low;
  high = c.high;
  start = of c.start;
  step = seen c.step of to;
  refused = λ m f. of (c.refused (to m) f);
  read = λ fs. c.read fs >>= λ t. Some (of t);
  write = λ m. c.write (to m);
  fits = λ m. c.fits (to m);
  ordered = c.ordered;
  reads = message_reads c of to there again;
  below = λ m f lt. message_still c of to again m f (c.below (to m) f lt);
  above = λ m f lt. message_still c of to again m f (c.above (to m) f lt);
  within = λ m. c.within (to m);
  rising = λ m. c.rising (to m);
  back = message_back c of to there again;
  sound = λ m h. c.sound (to m) h;
}
