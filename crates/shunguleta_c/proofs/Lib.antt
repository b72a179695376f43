-- each call's reply is settled
mod Settled
