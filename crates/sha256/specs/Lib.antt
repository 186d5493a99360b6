-- SPDX-License-Identifier: MPL-2.0
pub mod Digests
pub mod Macs
pub mod Parts
pub mod Padded
pub mod Tags
pub mod Examples
