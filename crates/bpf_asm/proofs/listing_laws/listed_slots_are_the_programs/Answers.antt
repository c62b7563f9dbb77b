use Rattle.bpf_asm.proofs.ListingLaws.{listed_slots, listed_count}
use Rattle.bpf_asm.proofs.listing_laws.listed_slots_are_the_programs.Goals as goal

pub returns : goal.returns
returns c = record { slots = listed_slots; count = listed_count }
