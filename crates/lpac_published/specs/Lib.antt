pub mod RingArgument
