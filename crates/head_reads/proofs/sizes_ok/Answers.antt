-- `sizes_ok` meets its contract: the first part of the test that fails makes the whole fail.
use mathlib.Core.Path.{refl}
use borrow.Author.Tests.{le-leb, lt-leb, le-ltb, lt-ltb}
use Rattle.head_reads.proofs.Heads.{sizes_by}
use Rattle.head_reads.proofs.sizes_ok.Goals as goal

pub returns-then-places-instances : goal.returns-then-places-instances
returns-then-places-instances c = sizes_by c.args.h (lt-leb _ _ c.if-places-instances.true) refl refl refl refl

pub returns-then-h-instances : goal.returns-then-h-instances
returns-then-h-instances c =
    sizes_by c.args.h (le-leb _ _ c.if-places-instances.false) (le-ltb _ _ c.if-h-instances.true) refl refl refl

pub returns-then-writers-gt128 : goal.returns-then-writers-gt128
returns-then-writers-gt128 c =
    sizes_by c.args.h (le-leb _ _ c.if-places-instances.false) (lt-ltb _ _ c.if-h-instances.false)
    (lt-leb _ _ c.if-writers-gt128.true) refl refl

pub returns-then-writers-h : goal.returns-then-writers-h
returns-then-writers-h c =
    sizes_by c.args.h (le-leb _ _ c.if-places-instances.false) (lt-ltb _ _ c.if-h-instances.false)
    (le-leb _ _ c.if-writers-gt128.false) (lt-leb _ _ c.if-writers-h.true) refl

pub returns : goal.returns
returns c =
    sizes_by c.args.h (le-leb _ _ c.if-places-instances.false) (lt-ltb _ _ c.if-h-instances.false)
    (le-leb _ _ c.if-writers-gt128.false) (le-leb _ _ c.if-writers-h.false) refl
