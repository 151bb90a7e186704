-- `sheet_lines::rooms::prepared_from` meets its contract: each room is longer than the longest input, so what was read decides.
-- Assumes nothing.
use native.Mathlib.Omega.{arith}
use Rattle.sheet_lines.proofs.Pages.{prepared_as}
use Rattle.sheet_lines.proofs.WhatWasRead.{what_was_read_decides}
use Rattle.sheet_lines.proofs.rooms.prepared_from.Goals as goal

pub returns : goal.returns
returns c file line h k =
    prepared_as (what_was_read_decides c.args.file.now c.args.n (omega arith) c.args.line.now c.args.m (omega arith) file line h k) c.prepared_of.ensures
