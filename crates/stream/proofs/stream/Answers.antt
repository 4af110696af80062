-- The stream, its rows, and zeros removed. Assumes nothing.
use Rattle.stream.specs.Passing.{pass_items, pass_rows_lem, pass_drop, pass_limit, pass_rows_limit, pass_end, left_stream, left_rows_lem}
use Rattle.stream.specs.Passing.{left_pass}
use Rattle.steps.specs.State.{is_limit}
use Rattle.stream.proofs.stream.Goals as goal

pub stream_all-requires : goal.stream_all-requires
stream_all-requires c = record { rules = c.requires.rules; st = c.requires.work.store; it = pass_items c.requires.it }

pub returns-in_err-s : goal.returns-in_err-s
returns-in_err-s c = rw (is_limit _ c.from_residual.ensures.0) (
  left_stream c.stream_all.ensures.0,
  λ prog w g h. pass_limit h c.stream_all.ensures.0
      (c.stream_all.ensures.1 g w.store (pass_items h)) c.in_err-s.was,
)

pub carry_frame-requires : goal.carry_frame-requires
carry_frame-requires c = record {
  absorption = _;
  items = _;
  pass = _;
  it = pass_rows_lem c.requires.it c.stream_all.ensures.0
      (c.stream_all.ensures.1 _ _ (pass_items c.requires.it)) c.in_ok-s.was;
}

pub returns-in_err-e : goal.returns-in_err-e
returns-in_err-e c = rw (is_limit _ c.from_residual-in_err-e.ensures.0) (
  left_rows_lem c.stream_all.ensures.0 c.carry_frame.ensures.0,
  λ prog w g h.
      let call = c.stream_all.ensures.1 g w.store (pass_items h) in
      pass_rows_limit h c.stream_all.ensures.0 call c.in_ok-s.was c.carry_frame.ensures.0
      (c.carry_frame.ensures.1 _ _ _ (pass_rows_lem h c.stream_all.ensures.0 call c.in_ok-s.was))
      c.in_err-e.was,
)

pub drop_zeros-kept-requires : goal.drop_zeros-kept-requires
drop_zeros-kept-requires c =
    let h = c.requires.it in
    let call = c.stream_all.ensures.1 _ _ (pass_items h) in
    pass_drop h c.stream_all.ensures.0 call c.in_ok-s.was c.carry_frame.ensures.0
    (c.carry_frame.ensures.1 _ _ _ (pass_rows_lem h c.stream_all.ensures.0 call c.in_ok-s.was)) c.in_ok-e.was

pub returns : goal.returns
returns c = (
  left_pass c.stream_all.ensures.0 c.carry_frame.ensures.0 c.drop_zeros-kept.ensures,
  λ prog w g h.
      let call = c.stream_all.ensures.1 g w.store (pass_items h) in
      pass_end h c.stream_all.ensures.0 call c.in_ok-s.was c.carry_frame.ensures.0
      (c.carry_frame.ensures.1 _ _ _ (pass_rows_lem h c.stream_all.ensures.0 call c.in_ok-s.was))
      c.in_ok-e.was c.drop_zeros-kept.ensures,
)
