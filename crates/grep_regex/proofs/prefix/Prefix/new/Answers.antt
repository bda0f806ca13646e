use Rattle.grep_regex.proofs.prefix.Prefix.new.Goals as goal

pub invariant_of-result-clause-sized : goal.invariant_of-result-clause-sized
invariant_of-result-clause-sized c = rw c.deref-9.ensures.value at c.new-buckets.ensures.size

pub invariant_of-result-clause-first_in_buckets : goal.invariant_of-result-clause-first_in_buckets
invariant_of-result-clause-first_in_buckets c = rw c.deref-9.ensures.value at c.new-buckets.ensures.first

pub invariant_of-result-clause-second_in_buckets : goal.invariant_of-result-clause-second_in_buckets
invariant_of-result-clause-second_in_buckets c = rw c.deref-9.ensures.value at c.new-buckets.ensures.second

pub invariant_of-result-clause-third_in_buckets : goal.invariant_of-result-clause-third_in_buckets
invariant_of-result-clause-third_in_buckets c = rw c.deref-9.ensures.value at c.new-buckets.ensures.third

pub invariant_of-result-clause-second_has : goal.invariant_of-result-clause-second_has
invariant_of-result-clause-second_has c = rw c.deref-4.ensures.value at c.new-second.ensures

pub invariant_of-result-clause-third_has : goal.invariant_of-result-clause-third_has
invariant_of-result-clause-third_has c = rw c.deref-5.ensures.value at c.new-third.ensures

pub invariant_of-result-clause-first_fold : goal.invariant_of-result-clause-first_fold
invariant_of-result-clause-first_fold c = rw c.deref-6.ensures.value at c.new-first_fold.ensures

pub invariant_of-result-clause-second_fold : goal.invariant_of-result-clause-second_fold
invariant_of-result-clause-second_fold c = rw c.deref-7.ensures.value at c.new-second_fold.ensures

pub invariant_of-result-clause-third_fold : goal.invariant_of-result-clause-third_fold
invariant_of-result-clause-third_fold c = rw c.deref-8.ensures.value at c.new-third_fold.ensures
