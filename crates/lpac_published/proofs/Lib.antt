pub mod RingArguments
